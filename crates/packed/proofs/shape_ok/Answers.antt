-- `packed::shape_ok` meets its contract.
use Rattle.laws.specs.Prelude.{arith}
use Rattle.packed.proofs.Shapes.{shape-low, shape-high, shape-none, shape-deep, shape-bounds, shape-rest}
use Rattle.packed_model.proofs.Tests.{size-pos}
use Rattle.packed.proofs.shape_ok.Goals as goal

pub returns-then-heaps-lt1 : goal.returns-then-heaps-lt1
returns-then-heaps-lt1 c = shape-low _ _ _ c.if-heaps-lt1.true

pub returns-then-heaps-gt256 : goal.returns-then-heaps-gt256
returns-then-heaps-gt256 c = shape-high _ _ _ c.if-heaps-lt1.false c.if-heaps-gt256.true

pub returns-then-levels-lt1 : goal.returns-then-levels-lt1
returns-then-levels-lt1 c = shape-none _ _ _ c.if-heaps-lt1.false c.if-heaps-gt256.false c.if-levels-lt1.true

pub returns-then-levels-gt17 : goal.returns-then-levels-gt17
returns-then-levels-gt17 c = shape-deep _ _ _ c.if-heaps-lt1.false c.if-heaps-gt256.false c.if-levels-lt1.false c.if-levels-gt17.true

pub overflow_sub-n : goal.overflow_sub-n
overflow_sub-n c = omega (arith, size-pos c.args.levels, c.power-n.ensures)

pub overflow_mul-result : goal.overflow_mul-result
overflow_mul-result c = omega (arith, shape-bounds c.args.heaps c.args.levels c.args.len c.power-n.result c.if-heaps-gt256.false c.if-levels-gt17.false c.power-n.ensures)

pub overflow_mul-result-2 : goal.overflow_mul-result-2
overflow_mul-result-2 c = omega (arith, shape-bounds c.args.heaps c.args.levels c.args.len c.power-n.result c.if-heaps-gt256.false c.if-levels-gt17.false c.power-n.ensures)

pub overflow_mul-result-3 : goal.overflow_mul-result-3
overflow_mul-result-3 c = omega (arith, shape-bounds c.args.heaps c.args.levels c.args.len c.power-n.result c.if-heaps-gt256.false c.if-levels-gt17.false c.power-n.ensures)

pub overflow_add-result : goal.overflow_add-result
overflow_add-result c = omega (arith, shape-bounds c.args.heaps c.args.levels c.args.len c.power-n.result c.if-heaps-gt256.false c.if-levels-gt17.false c.power-n.ensures)

pub returns : goal.returns
returns c = shape-rest _ _ _ _ c.if-heaps-lt1.false c.if-heaps-gt256.false c.if-levels-lt1.false c.power-n.ensures
