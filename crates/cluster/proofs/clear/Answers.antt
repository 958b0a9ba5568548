use Rattle.cluster.proofs.Opened.{clear-shape, clear-fits, clear-done}
use Rattle.cluster.proofs.Shapes.{nodes-counted, shape-here}
use Rattle.laws.specs.Prelude.{List, ◌*◌, ◌++◌, ◌∙◌, ap, arith, drop, replicate, sym, ℕ}
use Rattle.std.proofs.lemmas.List.{length-take-le}
use Rattle.cluster_model.specs.Prelude.{width}
use Rattle.cluster.proofs.clear.Goals as goal

pub returns-then-not-shape_ok : goal.returns-then-not-shape_ok
returns-then-not-shape_ok c = clear-shape _ _ _ _ c.shape_ok.ensures c.if-not-shape_ok.true-raw

pub overflow_mul-n : goal.overflow_mul-n
overflow_mul-n c = let h = shape-here c.args.places c.args.levels c.args.store.now c.shape_ok.result c.shape_ok.ensures c.if-not-shape_ok.false-raw in omega (arith, h.few)

pub overflow_add-n : goal.overflow_add-n
overflow_add-n c = let h = shape-here c.args.places c.args.levels c.args.store.now c.shape_ok.result c.shape_ok.ensures c.if-not-shape_ok.false-raw in omega (arith, h.few)

pub overflow_mul-n-2 : goal.overflow_mul-n-2
overflow_mul-n-2 c = let h = clear-fits c.args.places c.args.levels c.args.store.now c.shape_ok.result c.shape_ok.ensures c.if-not-shape_ok.false-raw c.nodes.result (nodes-counted _ _ c.nodes.ensures) in omega (arith, h)

pub slice_bounds-fill-end : goal.slice_bounds-fill-end
slice_bounds-fill-end c = let h = clear-fits c.args.places c.args.levels c.args.store.now c.shape_ok.result c.shape_ok.ensures c.if-not-shape_ok.false-raw c.nodes.result (nodes-counted _ _ c.nodes.ensures) in omega (arith, h)

pub slice_bounds-fill-end-2 : goal.slice_bounds-fill-end-2
slice_bounds-fill-end-2 c =
    sym (length-take-le _ _ (clear-fits c.args.places c.args.levels c.args.store.now c.shape_ok.result c.shape_ok.ensures c.if-not-shape_ok.false-raw c.nodes.result (nodes-counted _ _ c.nodes.ensures)))

pub returns : goal.returns
returns c =
    let n = c.nodes.result * width c.args.places in
    let h = clear-fits c.args.places c.args.levels c.args.store.now c.shape_ok.result c.shape_ok.ensures c.if-not-shape_ok.false-raw c.nodes.result (nodes-counted _ _ c.nodes.ensures) in
    clear-done c.args.places c.args.levels c.args.store.now c.shape_ok.result c.shape_ok.ensures c.if-not-shape_ok.false-raw c.nodes.result (nodes-counted _ _ c.nodes.ensures) _
    (ap (λ (l : List ℕ). l ++ drop n c.args.store.now) (c.fill.ensures.after (λ y e. e) ∙ ap (λ (i : ℕ). replicate i 0) (length-take-le n c.args.store.now h)))
