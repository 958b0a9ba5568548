-- `cluster_node::turn_at` meets its contract.
use Rattle.laws.specs.Prelude.{◌∙◌, ap, turn}
use Rattle.cluster_node.specs.Full.{turn_at}
use Rattle.cluster_node.proofs.turn_at.Goals as goal

pub returns : goal.returns
unfolding turn_at
returns c = c.turn_of.ensures ∙ ap turn c.element_at.ensures
