-- `tree_clock_level::root::rule_pop` meets its contract.
use Rattle.laws.specs.Prelude.{refl}
use Rattle.std.proofs.Common.{None, Some}
use Rattle.tree_clock_level.proofs.Roots.{pop_step, pop-still, root_below}
use Rattle.tree_clock_level.proofs.root.rule_pop.Goals as goal

pub returns-in_default : goal.returns-in_default
returns-in_default c = pop-still _ _ _ c.in_default.ensures.order _ _ refl c.stands.ensures

pub plan_take-requires : goal.plan_take-requires
plan_take-requires c = root_below _ _ _ c.in-Some.ensures.order _ _ c.in-Some.ensures.chosen c.requires _ c.room_under-under.ensures

pub returns-in_err-step : goal.returns-in_err-step
returns-in_err-step c = rw c.from_residual.ensures (pop_step _ _ _ c.in-Some.ensures.order _ _ c.in-Some.ensures.chosen _ c.room_under-under.ensures None c.in_err-step.ensures.order tt)

pub returns : goal.returns
returns c = pop_step _ _ _ c.in-Some.ensures.order _ _ c.in-Some.ensures.chosen _ c.room_under-under.ensures (Some c.in_ok-step.step) c.in_ok-step.ensures.order c.in_ok-step.ensures.step
