use Rattle.cluster.proofs.Called.{pop-eq}
use Rattle.cluster.proofs.Opened.{bad-shape, bad-root, root-here, look-count, look-low, take-ready, pop-empty, pop-stop, pop-done}
use Rattle.cluster.proofs.Shapes.{shape-here, nodes-less}
use Rattle.cluster.specs.Coded.{pop_down}
use Rattle.laws.specs.Prelude.{◌∙◌, arith}
use Rattle.cluster.proofs.pop.Goals as goal

pub returns-then-not-shape_ok : goal.returns-then-not-shape_ok
unfolding pop_down
returns-then-not-shape_ok c = bad-shape _ _ _ _ _ c.shape_ok.ensures c.if-not-shape_ok.true-raw ∙ pop-eq _ _ _

pub overflow_sub-levels : goal.overflow_sub-levels
overflow_sub-levels c = let h = shape-here c.args.places c.args.levels c.args.store.now c.shape_ok.result c.shape_ok.ensures c.if-not-shape_ok.false-raw in omega (arith, h.some)

pub capacity-limit-requires : goal.capacity-limit-requires
capacity-limit-requires c = ((shape-here c.args.places c.args.levels c.args.store.now c.shape_ok.result c.shape_ok.ensures c.if-not-shape_ok.false-raw).few, nodes-less c.args.places c.args.levels c.args.store.now c.shape_ok.result c.shape_ok.ensures c.if-not-shape_ok.false-raw)

pub root_look-v-requires : goal.root_look-v-requires
root_look-v-requires c = root-here c.args.places c.args.levels c.args.store.now c.shape_ok.result c.shape_ok.ensures c.if-not-shape_ok.false-raw

pub root_ok-requires : goal.root_ok-requires
root_ok-requires c = root-here c.args.places c.args.levels c.args.store.now c.shape_ok.result c.shape_ok.ensures c.if-not-shape_ok.false-raw

pub returns-then-not-root_ok : goal.returns-then-not-root_ok
unfolding pop_down
returns-then-not-root_ok c = bad-root c.args.places c.args.levels c.args.store.now c.shape_ok.result c.shape_ok.ensures c.if-not-shape_ok.false-raw c.capacity-limit.result c.capacity-limit.ensures c.root_look-v.result c.root_look-v.ensures c.root_ok.result c.root_ok.ensures _ c.if-not-root_ok.true-raw ∙ pop-eq _ _ _

pub root_held-requires : goal.root_held-requires
root_held-requires c = (root-here c.args.places c.args.levels c.args.store.now c.shape_ok.result c.shape_ok.ensures c.if-not-shape_ok.false-raw, look-count c.args.places c.args.levels c.args.store.now c.shape_ok.result c.shape_ok.ensures c.if-not-shape_ok.false-raw _ c.root_look-v.ensures)

pub returns-then-root_held-eq0 : goal.returns-then-root_held-eq0
returns-then-root_held-eq0 c = pop-empty c.args.places c.args.levels c.args.store.now c.shape_ok.result c.shape_ok.ensures c.if-not-shape_ok.false-raw c.capacity-limit.result c.capacity-limit.ensures c.root_look-v.result c.root_look-v.ensures c.root_ok.result c.root_ok.ensures c.if-not-root_ok.false-raw c.root_held.result c.root_held.ensures c.if-root_held-eq0.true ∙ pop-eq _ _ _

pub root_elem-low-requires : goal.root_elem-low-requires
root_elem-low-requires c = (root-here c.args.places c.args.levels c.args.store.now c.shape_ok.result c.shape_ok.ensures c.if-not-shape_ok.false-raw, look-low c.args.places c.args.levels c.args.store.now c.shape_ok.result c.shape_ok.ensures c.if-not-shape_ok.false-raw _ c.root_look-v.ensures)

pub overflow_sub-levels-2 : goal.overflow_sub-levels-2
overflow_sub-levels-2 c = let h = shape-here c.args.places c.args.levels c.args.store.now c.shape_ok.result c.shape_ok.ensures c.if-not-shape_ok.false-raw in omega (arith, h.some)

pub take-requires : goal.take-requires
take-requires c = take-ready c.args.places c.args.levels c.args.store.now c.shape_ok.result c.shape_ok.ensures c.if-not-shape_ok.false-raw c.capacity-limit.result c.capacity-limit.ensures c.root_look-v.result c.root_look-v.ensures c.root_ok.result c.root_ok.ensures c.if-not-root_ok.false-raw

pub returns-then-not-take : goal.returns-then-not-take
returns-then-not-take c = pop-stop c.args.places c.args.levels c.args.store.now c.shape_ok.result c.shape_ok.ensures c.if-not-shape_ok.false-raw c.capacity-limit.result c.capacity-limit.ensures c.root_look-v.result c.root_look-v.ensures c.root_ok.result c.root_ok.ensures c.if-not-root_ok.false-raw c.root_held.result c.root_held.ensures c.if-root_held-eq0.false _ c.root_elem-low.ensures _ _ c.take.ensures c.if-not-take.true-raw ∙ pop-eq _ _ _

pub returns : goal.returns
returns c = pop-done c.args.places c.args.levels c.args.store.now c.shape_ok.result c.shape_ok.ensures c.if-not-shape_ok.false-raw c.capacity-limit.result c.capacity-limit.ensures c.root_look-v.result c.root_look-v.ensures c.root_ok.result c.root_ok.ensures c.if-not-root_ok.false-raw c.root_held.result c.root_held.ensures c.if-root_held-eq0.false _ c.root_elem-low.ensures _ _ c.take.ensures c.if-not-take.false-raw ∙ pop-eq _ _ _
