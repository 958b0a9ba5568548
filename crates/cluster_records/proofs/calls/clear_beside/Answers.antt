-- `cluster_records::calls::clear_beside` meets its contract.
use Rattle.cluster_records.proofs.AfterRead.{clear-cycled, clear-unread}
use Rattle.cluster_records.proofs.calls.clear_beside.Goals as goal

pub returns-then-not-is_lent : goal.returns-then-not-is_lent
returns-then-not-is_lent c = clear-unread _ _ _ _ _ c.is_lent.ensures _ c.fresh_records-none.ensures c.if-not-is_lent.true-raw _ c.refused.ensures

pub returns : goal.returns
returns c = clear-cycled _ _ _ _ _ c.is_lent.ensures _ c.fresh_records-none.ensures c.if-not-is_lent.false-raw _ _ _ c.clear-c.ensures _ c.has_run.ensures _ c.due.ensures _ c.ended_by.ensures
