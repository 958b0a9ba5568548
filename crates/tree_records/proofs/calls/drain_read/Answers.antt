-- `tree_records::calls::drain_read` meets its contract.
use Rattle.tree_records.proofs.AfterRead.{drain-ended, drain-unread}
use Rattle.tree_records.proofs.calls.drain_read.Goals as goal

pub returns-then-not-is_lent-read : goal.returns-then-not-is_lent-read
returns-then-not-is_lent-read c = drain-unread _ _ _ _ _ _ c.is_lent.ensures _ c.if-not-is_lent-read.true-raw _ c.refused.ensures _

pub returns : goal.returns
returns c = drain-ended _ _ _ _ _ _ c.is_lent.ensures _ c.if-not-is_lent-read.false-raw _ _ _ _ _ _ c.drain-d.ensures _ c.due-written.ensures _ c.ended_by.ensures
