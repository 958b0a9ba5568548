-- `cluster::root_ok` meets its contract.
use Rattle.laws.specs.Prelude.{◌∙◌}
use Rattle.cluster.proofs.Root.{root-tested}
use Rattle.cluster.proofs.root_ok.Goals as goal

pub returns : goal.returns
returns c = c.node_ok.ensures ∙ root-tested _ _ _ _
