use Rattle.laws.specs.Prelude.{refl}
use Rattle.cluster_node.specs.Leaf.{right_rank}
use Rattle.cluster_node.proofs.right_lower.Goals as goal

pub returns : goal.returns
unfolding right_rank
returns c = refl
