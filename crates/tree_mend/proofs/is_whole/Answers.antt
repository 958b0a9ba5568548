-- `tree_mend::is_whole` meets its contract.
use Rattle.tree_mend.proofs.Descent.{descent-shape, descent-told}
use Rattle.tree_mend.proofs.Shapes.{root-lies}
use Rattle.tree_mend.proofs.is_whole.Goals as goal

pub returns-then-not-shape_fits : goal.returns-then-not-shape_fits
returns-then-not-shape_fits c = descent-shape _ _ _ _ (c.shape_fits.ensures _ _ c.shape_of-shape.ensures) c.if-not-shape_fits.true-raw

pub node_whole-requires : goal.node_whole-requires
node_whole-requires c = root-lies _ _ _ _ c.shape_of-shape.ensures _ (c.shape_fits.ensures _ _ c.shape_of-shape.ensures) c.if-not-shape_fits.false-raw

pub returns : goal.returns
returns c = descent-told _ _ _ _ (c.shape_fits.ensures _ _ c.shape_of-shape.ensures) c.if-not-shape_fits.false-raw _ c.node_whole.ensures
