use Rattle.cluster.proofs.Opened.{bad-shape, bad-root, root-here, look-count, look-low, take-ready, replace-empty, replace-stop, replace-done}
use Rattle.cluster.proofs.Shapes.{shape-here, nodes-less}
use Rattle.cluster.specs.Coded.{replace_down}
use Rattle.laws.specs.Prelude.{arith}
use Rattle.cluster.proofs.replace_tagged.Goals as goal

pub returns-then-not-shape_ok : goal.returns-then-not-shape_ok
unfolding replace_down
returns-then-not-shape_ok c = bad-shape _ _ _ _ _ c.shape_ok.ensures c.if-not-shape_ok.true-raw

pub overflow_sub-levels : goal.overflow_sub-levels
overflow_sub-levels c = let h = shape-here c.args.k c.args.levels c.args.store.now c.shape_ok.result c.shape_ok.ensures c.if-not-shape_ok.false-raw in omega (arith, h.some)

pub capacity-limit-requires : goal.capacity-limit-requires
capacity-limit-requires c = ((shape-here c.args.k c.args.levels c.args.store.now c.shape_ok.result c.shape_ok.ensures c.if-not-shape_ok.false-raw).few, nodes-less c.args.k c.args.levels c.args.store.now c.shape_ok.result c.shape_ok.ensures c.if-not-shape_ok.false-raw)

pub root_look-v-requires : goal.root_look-v-requires
root_look-v-requires c = root-here c.args.k c.args.levels c.args.store.now c.shape_ok.result c.shape_ok.ensures c.if-not-shape_ok.false-raw

pub root_ok-requires : goal.root_ok-requires
root_ok-requires c = root-here c.args.k c.args.levels c.args.store.now c.shape_ok.result c.shape_ok.ensures c.if-not-shape_ok.false-raw

pub returns-then-not-root_ok : goal.returns-then-not-root_ok
unfolding replace_down
returns-then-not-root_ok c = bad-root c.args.k c.args.levels c.args.store.now c.shape_ok.result c.shape_ok.ensures c.if-not-shape_ok.false-raw c.capacity-limit.result c.capacity-limit.ensures c.root_look-v.result c.root_look-v.ensures c.root_ok.result c.root_ok.ensures _ c.if-not-root_ok.true-raw

pub root_held-requires : goal.root_held-requires
root_held-requires c = (root-here c.args.k c.args.levels c.args.store.now c.shape_ok.result c.shape_ok.ensures c.if-not-shape_ok.false-raw, look-count c.args.k c.args.levels c.args.store.now c.shape_ok.result c.shape_ok.ensures c.if-not-shape_ok.false-raw _ c.root_look-v.ensures)

pub returns-then-root_held-eq0 : goal.returns-then-root_held-eq0
returns-then-root_held-eq0 c = replace-empty c.args.k c.args.levels c.args.store.now c.shape_ok.result c.shape_ok.ensures c.if-not-shape_ok.false-raw c.capacity-limit.result c.capacity-limit.ensures c.root_look-v.result c.root_look-v.ensures c.root_ok.result c.root_ok.ensures c.if-not-root_ok.false-raw c.root_held.result c.root_held.ensures _ c.if-root_held-eq0.true

pub root_elem-low-requires : goal.root_elem-low-requires
root_elem-low-requires c = (root-here c.args.k c.args.levels c.args.store.now c.shape_ok.result c.shape_ok.ensures c.if-not-shape_ok.false-raw, look-low c.args.k c.args.levels c.args.store.now c.shape_ok.result c.shape_ok.ensures c.if-not-shape_ok.false-raw _ c.root_look-v.ensures)

pub overflow_sub-levels-2 : goal.overflow_sub-levels-2
overflow_sub-levels-2 c = let h = shape-here c.args.k c.args.levels c.args.store.now c.shape_ok.result c.shape_ok.ensures c.if-not-shape_ok.false-raw in omega (arith, h.some)

pub swap-requires : goal.swap-requires
swap-requires c = take-ready c.args.k c.args.levels c.args.store.now c.shape_ok.result c.shape_ok.ensures c.if-not-shape_ok.false-raw c.capacity-limit.result c.capacity-limit.ensures c.root_look-v.result c.root_look-v.ensures c.root_ok.result c.root_ok.ensures c.if-not-root_ok.false-raw

pub returns-then-not-swap : goal.returns-then-not-swap
returns-then-not-swap c = replace-stop c.args.k c.args.levels c.args.store.now c.shape_ok.result c.shape_ok.ensures c.if-not-shape_ok.false-raw c.capacity-limit.result c.capacity-limit.ensures c.root_look-v.result c.root_look-v.ensures c.root_ok.result c.root_ok.ensures c.if-not-root_ok.false-raw c.root_held.result c.root_held.ensures c.if-root_held-eq0.false _ c.root_elem-low.ensures _ _ _ c.swap.ensures c.if-not-swap.true-raw

pub returns : goal.returns
returns c = replace-done c.args.k c.args.levels c.args.store.now c.shape_ok.result c.shape_ok.ensures c.if-not-shape_ok.false-raw c.capacity-limit.result c.capacity-limit.ensures c.root_look-v.result c.root_look-v.ensures c.root_ok.result c.root_ok.ensures c.if-not-root_ok.false-raw c.root_held.result c.root_held.ensures c.if-root_held-eq0.false _ c.root_elem-low.ensures _ _ _ c.swap.ensures c.if-not-swap.false-raw
