-- `card_cluster::stages::card_clocked_cluster_clear` meets its contract.
use Rattle.card_cluster.proofs.ClockedCluster.{clear-ready-now, clear_whole}
use Rattle.card_cluster.proofs.stages.card_clocked_cluster_clear.Goals as goal

pub hand_back-requires : goal.hand_back-requires
hand_back-requires c = clear-ready-now c.args.places c.args.levels c.args.store.now c.args.records.now _ _ c.clear_told-ended.ensures

pub returns : goal.returns
returns c = clear_whole c.args.places c.args.levels c.args.store.now c.args.records.now _ _ _ _ c.hand_back.ensures c.clear_told-ended.ensures
