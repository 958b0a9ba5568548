-- `tree_plan::swap_at` meets its contract.
use Rattle.tree_plan.proofs.Planning.{below_in, swap-planned, swap-planned-off}
use Rattle.tree_plan.proofs.swap_at.Goals as goal

pub returns-in_err-c : goal.returns-in_err-c
returns-in_err-c c = rw c.from_residual.ensures (swap-planned-off _ _ _ _ _ _ _ c.in_err-c.ensures.order)

pub plan_swap-requires : goal.plan_swap-requires
plan_swap-requires c = (below_in _ _ _ _ _ _ c.in_ok-c.ensures.order _ _ c.in_ok-c.ensures.chosen c.requires, c.requires.few, c.requires.deeper)

pub returns : goal.returns
returns c = swap-planned _ _ _ _ _ _ c.in_ok-c.ensures.order _ _ c.in_ok-c.ensures.chosen _ _ c.plan_swap.ensures.order c.plan_swap.ensures.step
