-- `cluster_records::calls::drain_read` meets its contract.
use Rattle.cluster_records.proofs.AfterRead.{drain-cycled, drain-unread}
use Rattle.cluster_records.proofs.calls.drain_read.Goals as goal

pub returns-then-not-is_lent-read : goal.returns-then-not-is_lent-read
returns-then-not-is_lent-read c = drain-unread _ _ _ _ _ c.is_lent.ensures _ c.if-not-is_lent-read.true-raw _ c.refused.ensures _

pub returns : goal.returns
returns c = drain-cycled _ _ _ _ _ c.is_lent.ensures _ c.if-not-is_lent-read.false-raw _ _ _ _ _ _ c.drain-d.ensures _ c.due.ensures _ c.ended_by.ensures
