-- `tree_plan::take_at` meets its contract.
use Rattle.tree_plan.proofs.Planning.{below_in, take-planned, take-planned-off}
use Rattle.tree_plan.proofs.take_at.Goals as goal

pub returns-in_err-c : goal.returns-in_err-c
returns-in_err-c c = rw c.from_residual.ensures (take-planned-off _ _ _ _ _ _ c.in_err-c.ensures.order)

pub plan_take-requires : goal.plan_take-requires
plan_take-requires c = (below_in _ _ _ _ _ _ c.in_ok-c.ensures.order _ _ c.in_ok-c.ensures.chosen c.requires, c.requires.few, c.requires.deeper)

pub returns : goal.returns
returns c = take-planned _ _ _ _ _ _ c.in_ok-c.ensures.order _ _ c.in_ok-c.ensures.chosen _ c.plan_take.ensures.order c.plan_take.ensures.step
