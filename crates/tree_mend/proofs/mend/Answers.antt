-- `tree_mend::mend` meets its contract.
use Rattle.tree_mend.proofs.Mends.{mend-able, mend-done, mend-first, mend-second, skipped-small}
use Rattle.tree_mend.proofs.Shapes.{slots-are, slots-lie}
use Rattle.laws.specs.Prelude.{◌<◌, arith}
use Rattle.tree_mend.proofs.mend.Goals as goal

pub returns-then-not-shape_fits : goal.returns-then-not-shape_fits
returns-then-not-shape_fits c = mend-first _ _ _ _ _ (c.shape_fits.ensures _ _ c.shape_of-shape.ensures) c.if-not-shape_fits.true-raw

pub returns-then-not-shape_fits-2 : goal.returns-then-not-shape_fits-2
returns-then-not-shape_fits-2 c = mend-second _ _ _ _ _ (c.shape_fits.ensures _ _ c.shape_of-shape.ensures) c.if-not-shape_fits.false-raw _ (c.shape_fits-2.ensures _ _ c.shape_of-shape.ensures) c.if-not-shape_fits-2.true-raw

pub mend_slots-skipped-requires : goal.mend_slots-skipped-requires
mend_slots-skipped-requires c =
    let a = c.args in
    let first = c.shape_fits.ensures _ _ c.shape_of-shape.ensures in
    mend-able _ _ _ _ _ first c.if-not-shape_fits.false-raw _ (c.shape_fits-2.ensures _ _ c.shape_of-shape.ensures) c.if-not-shape_fits-2.false-raw _
    (slots-are a.order a.levels a.from.now c.shape_of-shape.result c.shape_of-shape.ensures _ first c.if-not-shape_fits.false-raw)
    (slots-lie a.order a.levels a.from.now c.shape_of-shape.result c.shape_of-shape.ensures _ first c.if-not-shape_fits.false-raw) _ _ c.clear.ensures

pub overflow_cast-result : goal.overflow_cast-result
overflow_cast-result c =
    let a = c.args in
    let first = c.shape_fits.ensures _ _ c.shape_of-shape.ensures in
    let fits : c.mend_slots-skipped.result < 4294967296 =
    skipped-small a.from.now _ _ (slots-lie a.order a.levels a.from.now c.shape_of-shape.result c.shape_of-shape.ensures _ first c.if-not-shape_fits.false-raw) c.mend_slots-skipped.ensures.skipped in
    omega arith

pub returns : goal.returns
returns c =
    let a = c.args in
    let first = c.shape_fits.ensures _ _ c.shape_of-shape.ensures in
    let slots = slots-are a.order a.levels a.from.now c.shape_of-shape.result c.shape_of-shape.ensures _ first c.if-not-shape_fits.false-raw in
    mend-done _ _ _ _ _ first c.if-not-shape_fits.false-raw _ (c.shape_fits-2.ensures _ _ c.shape_of-shape.ensures) c.if-not-shape_fits-2.false-raw _ slots _ _ c.clear.ensures _ _ (c.mend_slots-skipped.ensures.skipped, c.mend_slots-skipped.ensures.words)
