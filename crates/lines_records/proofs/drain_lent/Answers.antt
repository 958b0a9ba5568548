-- `lines_records::drain_lent` meets its contract.
use Rattle.lines_records.proofs.Records.{some}
use Rattle.lines_records.proofs.Told.{drain-fit, drain-stood, drain-unread, drain-wrote}
use Rattle.lines_records.proofs.drain_lent.Goals as goal

pub returns-then-not-is_readable : goal.returns-then-not-is_readable
returns-then-not-is_readable c = drain-unread _ _ _ _ c.is_readable.ensures _ c.if-not-is_readable.true-raw

pub slice_copy_out-pending_of : goal.slice_copy_out-pending_of
slice_copy_out-pending_of c = some c.args.records.now _ c.is_readable.ensures c.if-not-is_readable.false-raw

pub returns-else-d-ne0 : goal.returns-else-d-ne0
returns-else-d-ne0 c = drain-stood _ _ _ _ c.is_readable.ensures c.if-not-is_readable.false-raw _ c.pending_of-due.ensures _ _ _ _ _ _ c.drain-d.ensures c.if-d-ne0.false

pub record_of-requires : goal.record_of-requires
record_of-requires c = drain-fit _ c.args.records.now _ _ c.is_readable.ensures c.if-not-is_readable.false-raw _ c.pending_of-due.ensures _ _ _ _ _ _ c.drain-d.ensures c.if-d-ne0.true

pub bounds-records-0 : goal.bounds-records-0
bounds-records-0 c = some c.args.records.now _ c.is_readable.ensures c.if-not-is_readable.false-raw

pub returns-then-d-ne0 : goal.returns-then-d-ne0
returns-then-d-ne0 c = drain-wrote _ _ _ _ c.is_readable.ensures c.if-not-is_readable.false-raw _ c.pending_of-due.ensures _ _ _ _ _ _ c.drain-d.ensures c.if-d-ne0.true _ c.record_of.ensures
