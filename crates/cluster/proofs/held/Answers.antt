use Rattle.cluster.proofs.Called.{held-eq}
use Rattle.cluster.proofs.Opened.{held-shape, held-root, root-here, look-count, held_small, held-done}
use Rattle.cluster.proofs.Shapes.{shape-here, nodes-less}
use Rattle.laws.specs.Prelude.{◌∙◌, arith}
use Rattle.cluster.proofs.held.Goals as goal

pub returns-then-not-shape_ok : goal.returns-then-not-shape_ok
returns-then-not-shape_ok c = held-shape _ _ _ _ c.shape_ok.ensures c.if-not-shape_ok.true-raw ∙ held-eq _ _ _

pub overflow_sub-levels : goal.overflow_sub-levels
overflow_sub-levels c = let h = shape-here c.args.places c.args.levels c.args.store.now c.shape_ok.result c.shape_ok.ensures c.if-not-shape_ok.false-raw in omega (arith, h.some)

pub capacity-limit-requires : goal.capacity-limit-requires
capacity-limit-requires c = ((shape-here c.args.places c.args.levels c.args.store.now c.shape_ok.result c.shape_ok.ensures c.if-not-shape_ok.false-raw).few, nodes-less c.args.places c.args.levels c.args.store.now c.shape_ok.result c.shape_ok.ensures c.if-not-shape_ok.false-raw)

pub root_look-v-requires : goal.root_look-v-requires
root_look-v-requires c = root-here c.args.places c.args.levels c.args.store.now c.shape_ok.result c.shape_ok.ensures c.if-not-shape_ok.false-raw

pub root_ok-requires : goal.root_ok-requires
root_ok-requires c = root-here c.args.places c.args.levels c.args.store.now c.shape_ok.result c.shape_ok.ensures c.if-not-shape_ok.false-raw

pub returns-then-not-root_ok : goal.returns-then-not-root_ok
returns-then-not-root_ok c = held-root c.args.places c.args.levels c.args.store.now c.shape_ok.result c.shape_ok.ensures c.if-not-shape_ok.false-raw c.capacity-limit.result c.capacity-limit.ensures c.root_look-v.result c.root_look-v.ensures c.root_ok.result c.root_ok.ensures c.if-not-root_ok.true-raw ∙ held-eq _ _ _

pub root_held-requires : goal.root_held-requires
root_held-requires c = (root-here c.args.places c.args.levels c.args.store.now c.shape_ok.result c.shape_ok.ensures c.if-not-shape_ok.false-raw, look-count c.args.places c.args.levels c.args.store.now c.shape_ok.result c.shape_ok.ensures c.if-not-shape_ok.false-raw _ c.root_look-v.ensures)

pub overflow_cast-result : goal.overflow_cast-result
overflow_cast-result c = let h = held_small c.args.places c.args.levels c.args.store.now c.shape_ok.result c.shape_ok.ensures c.if-not-shape_ok.false-raw c.capacity-limit.result c.capacity-limit.ensures c.root_look-v.result c.root_look-v.ensures c.root_ok.result c.root_ok.ensures c.if-not-root_ok.false-raw c.root_held.result c.root_held.ensures in omega (arith, h)

pub returns : goal.returns
returns c = held-done c.args.places c.args.levels c.args.store.now c.shape_ok.result c.shape_ok.ensures c.if-not-shape_ok.false-raw c.capacity-limit.result c.capacity-limit.ensures c.root_look-v.result c.root_look-v.ensures c.root_ok.result c.root_ok.ensures c.if-not-root_ok.false-raw _ c.root_held.ensures ∙ held-eq _ _ _
