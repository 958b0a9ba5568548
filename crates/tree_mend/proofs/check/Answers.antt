-- `tree_mend::check` meets its contract.
use Rattle.tree_mend.proofs.Shapes.{check-shape, store-lies}
use Rattle.tree_mend.proofs.check.Goals as goal

pub returns-then-not-shape_fits : goal.returns-then-not-shape_fits
returns-then-not-shape_fits c = check-shape _ _ _ _ c.shape_of-shape.ensures _ (c.shape_fits.ensures _ _ c.shape_of-shape.ensures) c.if-not-shape_fits.true-raw

pub first_broken-requires : goal.first_broken-requires
first_broken-requires c = store-lies _ _ _ _ c.shape_of-shape.ensures _ (c.shape_fits.ensures _ _ c.shape_of-shape.ensures) c.if-not-shape_fits.false-raw
