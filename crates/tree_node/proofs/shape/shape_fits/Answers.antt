-- `tree_node::shape::shape_fits` meets its contract.
use Rattle.tree_node.proofs.Shapes.{fits-is}
use Rattle.tree_node.proofs.shape.shape_fits.Goals as goal

pub returns : goal.returns
returns c = λ m levels sh. fits-is m levels _ _ sh
