-- `tree_plan::choose_low` meets its contract.
use Rattle.tree_plan.proofs.Planning.{low-none, low-order}
use Rattle.tree_plan.proofs.choose_low.Goals as goal

pub returns-then-l-order-clause-order : goal.returns-then-l-order-clause-order
returns-then-l-order-clause-order c = low-none _ _ _ _ _ _ c.look_low-l.ensures.whole c.look_low-l.ensures.place c.if-l-order.true

pub returns-clause-order : goal.returns-clause-order
returns-clause-order c = rw c.then_some.ensures (low-order _ _ _ _ _ _ c.look_low-l.ensures.whole c.look_low-l.ensures.place _ c.if-l-order.false c.look_low-l.ensures.within)
