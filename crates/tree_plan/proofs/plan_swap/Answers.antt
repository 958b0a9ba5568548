-- `tree_plan::plan_swap` meets its contract.
use Rattle.tree_plan.proofs.Planning.{chosen-low, swap-kept, swap-lifted}
use Rattle.tree_plan.proofs.plan_swap.Goals as goal

pub returns-then-lower-clause-step : goal.returns-then-lower-clause-step
returns-then-lower-clause-step c =
    swap-lifted c.args.place _ _ c.if-slot-le1.false _ (chosen-low _ _ _ _ _ c.in_ok-c.ensures.chosen) _ _ c.lower.ensures _ c.if-lower.true c.step_at-then-lower.ensures

pub returns-clause-step : goal.returns-clause-step
returns-clause-step c =
    swap-kept c.args.place _ _ c.if-slot-le1.false _ (chosen-low _ _ _ _ _ c.in_ok-c.ensures.chosen) _ _ c.lower.ensures _ c.if-lower.false c.step_at-2.ensures
