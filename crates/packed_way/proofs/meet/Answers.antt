-- `packed_way::meet` meets its contract.
use Rattle.packed_way.proofs.Putted.{met-high, met-low}
use Rattle.packed_way.proofs.meet.Goals as goal

pub returns-then-e-x : goal.returns-then-e-x
returns-then-e-x c = met-low c.args.heaps _ _ _ _ c.slot-e.ensures c.if-e-x.true

pub returns : goal.returns
returns c = met-high c.args.heaps _ _ _ _ c.slot-e.ensures c.if-e-x.false _ c.set_slot.ensures
