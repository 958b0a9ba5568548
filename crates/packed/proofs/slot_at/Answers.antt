-- `packed::slot_at` meets its contract.
use Rattle.laws.specs.Prelude.{arith}
use Rattle.packed.proofs.Shapes.{slot-at-bounds, slot-at-is, size-most}
use Rattle.packed.proofs.slot_at.Goals as goal

pub overflow_mul-result : goal.overflow_mul-result
overflow_mul-result c = omega (arith, slot-at-bounds c.args.heaps c.args.heap c.args.d c.power-q.result c.requires.0 c.requires.1 c.requires.2 c.power-q.ensures)

pub overflow_mul-result-2 : goal.overflow_mul-result-2
overflow_mul-result-2 c = omega (arith, slot-at-bounds c.args.heaps c.args.heap c.args.d c.power-q.result c.requires.0 c.requires.1 c.requires.2 c.power-q.ensures)

pub overflow_add-result : goal.overflow_add-result
overflow_add-result c = omega (arith, slot-at-bounds c.args.heaps c.args.heap c.args.d c.power-q.result c.requires.0 c.requires.1 c.requires.2 c.power-q.ensures, size-most c.args.d (omega (arith, c.requires.2)), c.requires.3)

pub overflow_add-result-2 : goal.overflow_add-result-2
overflow_add-result-2 c = omega (arith, slot-at-bounds c.args.heaps c.args.heap c.args.d c.power-q.result c.requires.0 c.requires.1 c.requires.2 c.power-q.ensures, size-most c.args.d (omega (arith, c.requires.2)), c.requires.3)

pub returns : goal.returns
returns c = slot-at-is _ _ _ _ _ c.power-q.ensures c.requires.3
