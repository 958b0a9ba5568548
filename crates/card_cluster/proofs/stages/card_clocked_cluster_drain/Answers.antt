-- `card_cluster::stages::card_clocked_cluster_drain` meets its contract.
use Rattle.card_cluster.proofs.ClockedCluster.{drain-ready-now, drain-whole}
use Rattle.card_cluster.proofs.stages.card_clocked_cluster_drain.Goals as goal

pub hand_back-requires : goal.hand_back-requires
hand_back-requires c =
    let a = c.args in
    drain-ready-now a.places a.levels a.store.now a.records.now _ _ _ c.load-read.ensures a.out.now _ a.budget c.drain_told-ended.ensures

pub returns : goal.returns
returns c =
    let a = c.args in
    drain-whole a.places a.levels a.store.now a.records.now _ _ _ _ c.hand_back.ensures _ c.load-read.ensures a.out.now _ a.budget c.drain_told-ended.ensures
