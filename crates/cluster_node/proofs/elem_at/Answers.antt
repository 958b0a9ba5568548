-- `cluster_node::elem_at` meets its contract.
use Rattle.cluster_node.specs.Leaf.{elem_at}
use Rattle.cluster_node.proofs.elem_at.Goals as goal

pub returns : goal.returns
unfolding elem_at
returns c = c.element_at.ensures
