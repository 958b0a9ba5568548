-- `packed_way::slot` meets its contract.
use Rattle.packed_model.specs.Words.{slot_in}
use Rattle.laws.specs.Prelude.{rules}
use Rattle.packed_way.proofs.slot.Goals as goal

pub returns : goal.returns
unfolding slot_in
returns c = search rules
