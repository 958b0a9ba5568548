-- `tree_plan::choose_least` meets its contract.
use Rattle.tree_plan.proofs.Planning.{least-order}
use Rattle.tree_plan.proofs.choose_least.Goals as goal

pub returns-clause-order : goal.returns-clause-order
returns-clause-order c = rw c.then_some.ensures (least-order _ _ _ _ _ _ c.look_least-l.ensures.whole _ _ c.look_least-l.ensures.place c.look_least-l.ensures.within c.slot_at-slot.ensures)
