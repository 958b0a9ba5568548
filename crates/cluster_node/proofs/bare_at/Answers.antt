use Rattle.cluster_node.specs.Leaf.{bare_at}
use Rattle.laws.specs.Prelude.{rules}
use Rattle.cluster_node.proofs.bare_at.Goals as goal

pub returns : goal.returns
unfolding bare_at
returns c = search rules
