-- `tree_plan::plan_of` meets its contract.
use Rattle.tree_plan.proofs.Planning.{planned-as, planned-none}
use Rattle.tree_plan.proofs.plan_of.Goals as goal

pub returns-in-Nothing : goal.returns-in-Nothing
returns-in-Nothing c = planned-none _ _ _ _ _ _ _ _ c.in-Nothing.is c.no_step.ensures

pub returns-in-Put : goal.returns-in-Put
returns-in-Put c = planned-as _ _ _ _ _ _ _ _ _ c.in-Put.is (c.put_at.ensures _ _)
