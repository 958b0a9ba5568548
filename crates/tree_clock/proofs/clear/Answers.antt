-- `tree_clock::clear` meets its contract.
use Rattle.tree_clock.proofs.Public.{clear-shape, shape-yes}
use Rattle.tree_clock_level.proofs.Cycles.{clear-levels, slots-within}
use Rattle.tree_clock.proofs.clear.Goals as goal

pub shape_fits-requires : goal.shape_fits-requires
shape_fits-requires c = c.shape_of-shape.ensures.most

pub returns-then-not-shape_fits : goal.returns-then-not-shape_fits
returns-then-not-shape_fits c = clear-shape _ _ _ _ (c.shape_fits.ensures _ _ c.shape_of-shape.ensures) _ c.if-not-shape_fits.true-raw _ _ c.left_as.ensures

pub clear_shaped-cleared-requires : goal.clear_shaped-cleared-requires
clear_shaped-cleared-requires c =
    let a = c.args in
    slots-within a.order a.levels a.store.now c.shape_of-shape.result c.shape_of-shape.ensures
    (shape-yes a.order a.levels a.store.now c.shape_fits.result (c.shape_fits.ensures _ _ c.shape_of-shape.ensures) c.if-not-shape_fits.false-raw)

pub returns : goal.returns
returns c =
    let a = c.args in
    clear-levels a.order a.levels a.store.now c.shape_of-shape.result c.shape_of-shape.ensures
    (shape-yes a.order a.levels a.store.now c.shape_fits.result (c.shape_fits.ensures _ _ c.shape_of-shape.ensures) c.if-not-shape_fits.false-raw)
    _ _ _ c.clear_shaped-cleared.ensures
