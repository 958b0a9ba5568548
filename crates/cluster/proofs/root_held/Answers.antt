-- `cluster::root_held` meets its contract.
use Rattle.laws.specs.Prelude.{refl}
use Rattle.cluster.proofs.Root.{root-counts}
use Rattle.cluster.proofs.root_held.Goals as goal

pub returns : goal.returns
returns c = root-counts _ _ _ _ _ refl refl
