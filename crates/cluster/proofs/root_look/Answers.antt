-- `cluster::root_look` meets its contract.
use Rattle.laws.specs.Prelude.{◌∙◌, ap}
use Rattle.cluster_node.specs.Seeing.{low_only}
use Rattle.cluster.proofs.Root.{root-seen}
use Rattle.cluster.proofs.root_look.Goals as goal

pub returns : goal.returns
returns c = c.look.ensures ∙ ap low_only (root-seen _ _)
