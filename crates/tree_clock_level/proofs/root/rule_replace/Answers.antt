-- `tree_clock_level::root::rule_replace` meets its contract.
use Rattle.laws.specs.Prelude.{◌∙◌, ◌≡◌, false, refl, sym, untagged}
use Rattle.std.proofs.Common.{None, Some}
use Rattle.tree_clock_level.proofs.Roots.{replace-barred, replace-step, replace-still, root_below}
use Rattle.tree_clock_level.proofs.root.rule_replace.Goals as goal
use Rattle.tree_clock_level.proofs.root.rule_replace.Goals.{Else-is_untagged}

-- the element has a tag
has : (c : Else-is_untagged) → untagged c.args.x ≡ false
has c = sym c.is_untagged.ensures ∙ c.if-is_untagged.false

pub returns-then-is_untagged : goal.returns-then-is_untagged
returns-then-is_untagged c = replace-barred _ _ _ _ (sym c.is_untagged.ensures ∙ c.if-is_untagged.true) _ _ refl c.stands.ensures

pub returns-in_default : goal.returns-in_default
returns-in_default c = replace-still _ _ _ c.in_default.ensures.order _ _ refl c.stands-in_default.ensures _ (has (goal.at.returns-in_default c).Else-is_untagged)

pub plan_swap-requires : goal.plan_swap-requires
plan_swap-requires c = root_below _ _ _ c.in-Some.ensures.order _ _ c.in-Some.ensures.chosen c.requires _ c.room_under-under.ensures

pub returns-in_err-step : goal.returns-in_err-step
returns-in_err-step c = rw c.from_residual.ensures (replace-step _ _ _ c.in-Some.ensures.order _ _ c.in-Some.ensures.chosen _ (has (goal.at.returns-in_err-step c).Else-is_untagged) _ c.room_under-under.ensures None c.in_err-step.ensures.order tt)

pub returns : goal.returns
returns c = replace-step _ _ _ c.in-Some.ensures.order _ _ c.in-Some.ensures.chosen _ (has (goal.at.returns c).Else-is_untagged) _ c.room_under-under.ensures (Some c.in_ok-step.step) c.in_ok-step.ensures.order c.in_ok-step.ensures.step
