use Rattle.laws.specs.Prelude.{refl}
use Rattle.cluster_node.specs.Leaf.{ok_by}
use Rattle.cluster_node.proofs.node_ok.Goals as goal

pub returns : goal.returns
unfolding ok_by
returns c = rw c.bare_at-bare.ensures refl
