-- `tree_clock_level::root::rule_push` meets its contract.
use Rattle.laws.specs.Prelude.{◌∙◌, ◌≡◌, false, refl, sym, untagged}
use Rattle.tree_clock_level.proofs.Roots.{push-barred, push_step, push-still}
use Rattle.tree_clock_level.proofs.root.rule_push.Goals as goal
use Rattle.tree_clock_level.proofs.root.rule_push.Goals.{Else-is_untagged}

-- the element has a tag
has : (c : Else-is_untagged) → untagged c.args.x ≡ false
has c = sym c.is_untagged.ensures ∙ c.if-is_untagged.false

pub returns-in_default : goal.returns-in_default
returns-in_default c = push-still _ _ _ _ (has (goal.at.returns-in_default c).Else-is_untagged) _ _ c.in_default.ensures.order refl c.stands-in_default.ensures

pub returns : goal.returns
returns c = push_step _ _ _ _ (has (goal.at.returns c).Else-is_untagged) _ _ _ c.in-Some.ensures.order c.in-Some.ensures.chosen c.plan_put.ensures

pub returns-then-is_untagged : goal.returns-then-is_untagged
returns-then-is_untagged c = push-barred _ _ _ _ (sym c.is_untagged.ensures ∙ c.if-is_untagged.true) _ _ refl c.stands.ensures
