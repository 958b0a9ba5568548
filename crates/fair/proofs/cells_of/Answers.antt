-- `fair::cells_of` meets its contract.
use Rattle.laws.specs.Prelude.{arith}
use Rattle.fair_model.specs.Ranks.{cells}
use Rattle.fair.proofs.cells_of.Goals as goal

pub returns : goal.returns
unfolding cells
returns c = omega (arith, c.div_ceil.ensures)
