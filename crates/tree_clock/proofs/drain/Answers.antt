-- `tree_clock::drain` meets its contract.
use Rattle.tree_clock.proofs.Public.{drain-shape, shape-yes}
use Rattle.tree_clock_level.proofs.Cycles.{drain-levels, shape-below}
use Rattle.tree_clock.proofs.drain.Goals as goal

pub shape_fits-requires : goal.shape_fits-requires
shape_fits-requires c = c.shape_of-shape.ensures.most

pub returns-then-not-shape_fits : goal.returns-then-not-shape_fits
returns-then-not-shape_fits c = drain-shape _ _ _ _ (c.shape_fits.ensures _ _ c.shape_of-shape.ensures) _ c.if-not-shape_fits.true-raw _ _ _ _ _ c.report.ensures

pub drain_shaped-requires : goal.drain_shaped-requires
drain_shaped-requires c =
    let a = c.args in
    shape-below a.order a.levels a.store.now c.shape_of-shape.result c.shape_of-shape.ensures
    (shape-yes a.order a.levels a.store.now c.shape_fits.result (c.shape_fits.ensures _ _ c.shape_of-shape.ensures) c.if-not-shape_fits.false-raw)

pub returns : goal.returns
returns c =
    let a = c.args in
    drain-levels a.order a.levels a.store.now c.shape_of-shape.result c.shape_of-shape.ensures
    (shape-yes a.order a.levels a.store.now c.shape_fits.result (c.shape_fits.ensures _ _ c.shape_of-shape.ensures) c.if-not-shape_fits.false-raw)
    _ _ _ c.drain_shaped.ensures
