-- `packed::held` meets its contract.
use Rattle.laws.specs.Prelude.{◌∙◌, arith, not-false, not-true, sym}
use Rattle.packed.proofs.Shapes.{ground}
use Rattle.packed.proofs.Calls.{held-shape, held_none, held-bad, held-fine}
use Rattle.packed.proofs.held.Goals as goal

pub returns-then-not-shape_ok : goal.returns-then-not-shape_ok
returns-then-not-shape_ok c = held-shape _ _ _ _ _ c.shape_ok.ensures (not-true c.shape_ok.result c.if-not-shape_ok.true-raw)

pub returns-then-heaps-heap : goal.returns-then-heaps-heap
returns-then-heaps-heap c = held_none _ _ _ _ _ c.shape_ok.ensures (not-false c.shape_ok.result c.if-not-shape_ok.false-raw) c.if-heaps-heap.true

pub returns-then-not-root_ok : goal.returns-then-not-root_ok
returns-then-not-root_ok c = held-bad _ _ _ _ _ _ c.shape_ok.ensures (not-false c.shape_ok.result c.if-not-shape_ok.false-raw) c.if-heaps-heap.false c.root_ok.ensures (not-true c.root_ok.result c.if-not-root_ok.true-raw)

pub offset_bounds-store-heap : goal.offset_bounds-store-heap
offset_bounds-store-heap c = omega (arith, ground c.args.heaps c.args.levels c.args.heap c.args.store.now (record { shape = sym c.shape_ok.ensures ∙ (not-false c.shape_ok.result c.if-not-shape_ok.false-raw); heap = c.if-heaps-heap.false }))

pub bounds-store-heap : goal.bounds-store-heap
bounds-store-heap c = (ground c.args.heaps c.args.levels c.args.heap c.args.store.now (record { shape = sym c.shape_ok.ensures ∙ (not-false c.shape_ok.result c.if-not-shape_ok.false-raw); heap = c.if-heaps-heap.false })).long

pub returns : goal.returns
returns c = held-fine _ _ _ _ _ _ c.shape_ok.ensures (not-false c.shape_ok.result c.if-not-shape_ok.false-raw) c.if-heaps-heap.false c.root_ok.ensures (not-false c.root_ok.result c.if-not-root_ok.false-raw)
