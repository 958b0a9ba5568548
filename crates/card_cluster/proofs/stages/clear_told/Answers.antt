-- `card_cluster::stages::clear_told` meets its contract.
use Rattle.card_cluster.proofs.ClockedCluster.{clear_told_lem}
use Rattle.card_cluster.proofs.stages.clear_told.Goals as goal

pub returns : goal.returns
returns c = clear_told_lem _ _ _ _ _ _ c.clear_beside.ensures
