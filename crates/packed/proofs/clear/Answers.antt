-- `packed::clear` meets its contract.
use Rattle.laws.specs.Prelude.{arith, not-false, not-true, sym}
use lib.Seq.{length-take-le}
use Rattle.packed.proofs.Calls.{clear-shape, clear-few, clear-fits, clear-done}
use Rattle.packed.proofs.clear.Goals as goal

pub returns-then-not-shape_ok : goal.returns-then-not-shape_ok
returns-then-not-shape_ok c = clear-shape c.args.heaps c.args.levels c.args.store.now c.shape_ok.result c.shape_ok.ensures (not-true c.shape_ok.result c.if-not-shape_ok.true-raw)

pub capacity_of-n-requires : goal.capacity_of-n-requires
capacity_of-n-requires c = clear-few c.args.heaps c.args.levels c.args.store.now c.shape_ok.result c.shape_ok.ensures (not-false c.shape_ok.result c.if-not-shape_ok.false-raw)

pub overflow_mul-heaps : goal.overflow_mul-heaps
overflow_mul-heaps c = omega (arith, clear-fits c.args.heaps c.args.levels c.args.store.now c.shape_ok.result c.shape_ok.ensures (not-false c.shape_ok.result c.if-not-shape_ok.false-raw) c.capacity_of-n.result c.capacity_of-n.ensures)

pub overflow_mul-heaps-2 : goal.overflow_mul-heaps-2
overflow_mul-heaps-2 c = omega (arith, clear-fits c.args.heaps c.args.levels c.args.store.now c.shape_ok.result c.shape_ok.ensures (not-false c.shape_ok.result c.if-not-shape_ok.false-raw) c.capacity_of-n.result c.capacity_of-n.ensures)

pub overflow_add-heaps : goal.overflow_add-heaps
overflow_add-heaps c = omega (arith, clear-fits c.args.heaps c.args.levels c.args.store.now c.shape_ok.result c.shape_ok.ensures (not-false c.shape_ok.result c.if-not-shape_ok.false-raw) c.capacity_of-n.result c.capacity_of-n.ensures)

pub slice_bounds-fill-end : goal.slice_bounds-fill-end
slice_bounds-fill-end c = omega (arith, clear-fits c.args.heaps c.args.levels c.args.store.now c.shape_ok.result c.shape_ok.ensures (not-false c.shape_ok.result c.if-not-shape_ok.false-raw) c.capacity_of-n.result c.capacity_of-n.ensures)

pub slice_bounds-fill-end-2 : goal.slice_bounds-fill-end-2
slice_bounds-fill-end-2 c = sym (length-take-le _ _ (clear-fits c.args.heaps c.args.levels c.args.store.now c.shape_ok.result c.shape_ok.ensures (not-false c.shape_ok.result c.if-not-shape_ok.false-raw) c.capacity_of-n.result c.capacity_of-n.ensures).2)

pub returns : goal.returns
returns c = clear-done c.args.heaps c.args.levels c.args.store.now c.shape_ok.result c.shape_ok.ensures (not-false c.shape_ok.result c.if-not-shape_ok.false-raw) _ c.capacity_of-n.ensures _ (c.fill.ensures.after (λ y e. e))
