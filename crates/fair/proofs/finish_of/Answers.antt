-- `fair::finish_of` meets its contract.
use Rattle.laws.specs.Prelude.{◌≡◌, arith, max}
use Rattle.fair.proofs.Notes.{cost-fits, finish-told}
use Rattle.fair.proofs.finish_of.Goals as goal

pub overflow_mul-cost : goal.overflow_mul-cost
overflow_mul-cost c = omega (arith, cost-fits c.args.flow.0 c.args.weight.0 c.args.length.0 c.cells_of.result c.step_of.result c.requires c.cells_of.ensures c.step_of.ensures)

pub returns : goal.returns
returns c =
    let later : c.max.result ≡ max c.args.clock c.args.last = omega arith in
    finish-told c.args.clock c.args.last _ _ _ _ _ c.cells_of.ensures c.step_of.ensures (omega arith)
