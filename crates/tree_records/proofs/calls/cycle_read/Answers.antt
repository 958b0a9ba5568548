-- `tree_records::calls::cycle_read` meets its contract.
use Rattle.tree_records.proofs.AfterRead.{cycle-ended, cycle-unread}
use Rattle.tree_records.proofs.calls.cycle_read.Goals as goal

pub returns-then-not-is_lent-read : goal.returns-then-not-is_lent-read
returns-then-not-is_lent-read c = cycle-unread _ _ _ _ _ _ c.is_lent.ensures _ c.if-not-is_lent-read.true-raw _ c.refused.ensures _

pub returns : goal.returns
returns c = cycle-ended _ _ _ _ _ _ c.is_lent.ensures _ c.if-not-is_lent-read.false-raw _ _ _ _ c.cycle-c.ensures _ c.has_run.ensures _ c.due-written.ensures _ c.ended_by.ensures
