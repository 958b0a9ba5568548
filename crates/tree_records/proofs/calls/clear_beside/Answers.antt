-- `tree_records::calls::clear_beside` meets its contract.
use Rattle.tree_records.proofs.AfterRead.{clear-ended, clear-unread, unread-is}
use Rattle.tree_records.proofs.calls.clear_beside.Goals as goal

pub returns-then-not-is_lent : goal.returns-then-not-is_lent
returns-then-not-is_lent c = clear-unread _ _ _ _ _ _ c.is_lent.ensures _ (unread-is _ _ c.fresh_state-state.ensures) c.if-not-is_lent.true-raw _ c.refused.ensures

pub returns : goal.returns
returns c = clear-ended _ _ _ _ _ _ c.is_lent.ensures _ (unread-is _ _ c.fresh_state-state.ensures) c.if-not-is_lent.false-raw _ _ _ c.clear-cleared.ensures _ c.has_run.ensures _ c.due-written.ensures _ c.ended_by.ensures
