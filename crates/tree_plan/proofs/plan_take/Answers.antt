-- `tree_plan::plan_take` meets its contract.
use Rattle.tree_plan.proofs.Planning.{chosen-low, take-lifted}
use Rattle.tree_plan.proofs.plan_take.Goals as goal

pub returns-clause-step : goal.returns-clause-step
returns-clause-step c = take-lifted c.args.place _ _ c.if-slot-le1.false _ (chosen-low _ _ _ _ _ c.in_ok-c.ensures.chosen) _ c.step_at-2.ensures
