use Rattle.laws.specs.Prelude.{refl}
use Rattle.cluster_node.specs.Leaf.{under_of}
use Rattle.cluster_node.proofs.room_under.Goals as goal

pub returns : goal.returns
unfolding under_of
returns c = rw c.saturating_sub.ensures refl
