use Rattle.laws.specs.Prelude.{refl}
use Rattle.cluster_node.specs.Leaf.{counts_ok}
use Rattle.cluster_node.proofs.counts_ok.Goals as goal

pub returns : goal.returns
unfolding counts_ok
returns c = refl
