-- `card_cluster::stages::drain_told` meets its contract.
use Rattle.laws.specs.Prelude.{◌≤◌, arith}
use Rattle.card_cluster.proofs.ClockedCluster.{drain-done, drain-few, drain-short}
use Rattle.card_cluster.proofs.stages.drain_told.Goals as goal

pub returns-then-out-lt-DRAIN_OUT : goal.returns-then-out-lt-DRAIN_OUT
returns-then-out-lt-DRAIN_OUT c = drain-short _ _ _ _ _ _ _ c.if-out-lt-DRAIN_OUT.true _ c.none_ended.ensures

pub overflow_cast-ended : goal.overflow_cast-ended
overflow_cast-ended c = let few : c.drain_read-ended.result.cycles ≤ c.args.budget = drain-few _ _ _ _ _ _ _ c.drain_read-ended.ensures.1 in omega (arith, few)

pub returns : goal.returns
returns c = drain-done _ _ _ _ _ _ _ c.if-out-lt-DRAIN_OUT.false _ _ c.drain_read-ended.ensures _ c.tell_drain.ensures
