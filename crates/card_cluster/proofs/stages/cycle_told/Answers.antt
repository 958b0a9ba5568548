-- `card_cluster::stages::cycle_told` meets its contract.
use Rattle.card_cluster.proofs.ClockedCluster.{cycle-done, cycle-refused, cycle-short}
use Rattle.card_cluster.proofs.stages.cycle_told.Goals as goal

pub returns-then-request-gt3 : goal.returns-then-request-gt3
returns-then-request-gt3 c = cycle-refused _ _ _ _ _ _ _ _ _ _ c.if-request-gt3.true _ c.refuse.ensures _ c.none_ended.ensures

pub returns-then-out-lt-OUT : goal.returns-then-out-lt-OUT
returns-then-out-lt-OUT c = cycle-short _ _ _ _ _ _ _ _ _ _ c.if-out-lt-OUT.true _ c.none_ended-then-out-lt-OUT.ensures

pub returns : goal.returns
returns c = cycle-done _ _ _ _ _ _ _ _ _ _ c.if-out-lt-OUT.false c.if-request-gt3.false _ c.request_of-q.ensures _ _ c.cycle_read-ended.ensures _ c.tell.ensures.1
