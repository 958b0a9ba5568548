-- `packed_way::power` meets its contract.
use Rattle.packed_way.proofs.Leaf.{shift_is}
use Rattle.laws.specs.Prelude.{arith}
use Rattle.packed_way.proofs.power.Goals as goal

pub returns : goal.returns
returns c = shift_is _ (omega arith)
