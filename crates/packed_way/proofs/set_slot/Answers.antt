-- `packed_way::set_slot` meets its contract.
use Rattle.packed_model.specs.Words.{write_slot}
use Rattle.laws.specs.Prelude.{rules}
use Rattle.packed_way.proofs.set_slot.Goals as goal

pub returns : goal.returns
unfolding write_slot
returns c = search rules
