-- `card_cluster::stages::card_clocked_cluster_cycle` meets its contract.
use Rattle.card_cluster.proofs.ClockedCluster.{cycle-ready-now, cycle-whole}
use Rattle.card_cluster.proofs.stages.card_clocked_cluster_cycle.Goals as goal

pub hand_back-requires : goal.hand_back-requires
hand_back-requires c =
    let a = c.args in
    cycle-ready-now a.places a.levels a.store.now a.records.now _ _ _ c.load-read.ensures a.out.now _ a.request a.rank a.tag a.length c.cycle_told-ended.ensures

pub returns : goal.returns
returns c =
    let a = c.args in
    cycle-whole a.places a.levels a.store.now a.records.now _ _ _ _ c.hand_back.ensures _ c.load-read.ensures a.out.now _ a.request a.rank a.tag a.length c.cycle_told-ended.ensures
