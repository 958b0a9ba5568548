-- `lines_records::cycle_lent` meets its contract.
use Rattle.laws.specs.Prelude.{ap, not}
use Rattle.lines_records.proofs.Records.{some}
use Rattle.lines_records.proofs.Told.{cycle-fit, cycle-stood, cycle-unread, cycle-wrote}
use Rattle.lines_records.proofs.cycle_lent.Goals as goal

pub returns-then-not-is_readable : goal.returns-then-not-is_readable
returns-then-not-is_readable c = cycle-unread _ _ _ _ c.is_readable.ensures _ c.if-not-is_readable.true-raw

pub slice_copy_out-pending_of : goal.slice_copy_out-pending_of
slice_copy_out-pending_of c = some c.args.records.now _ c.is_readable.ensures c.if-not-is_readable.false-raw

pub returns-else-has_run : goal.returns-else-has_run
returns-else-has_run c = cycle-stood _ _ _ _ c.is_readable.ensures c.if-not-is_readable.false-raw _ c.pending_of-due.ensures _ _ _ _ c.cycle-c.ensures _ c.has_run.ensures (ap not c.if-has_run.false)

pub record_of-requires : goal.record_of-requires
record_of-requires c = cycle-fit _ c.args.records.now _ _ c.is_readable.ensures c.if-not-is_readable.false-raw _ c.pending_of-due.ensures _ _ _ _ c.cycle-c.ensures _ c.has_run.ensures (ap not c.if-has_run.true)

pub bounds-records-0 : goal.bounds-records-0
bounds-records-0 c = some c.args.records.now _ c.is_readable.ensures c.if-not-is_readable.false-raw

pub returns-then-has_run : goal.returns-then-has_run
returns-then-has_run c = cycle-wrote _ _ _ _ c.is_readable.ensures c.if-not-is_readable.false-raw _ c.pending_of-due.ensures _ _ _ _ c.cycle-c.ensures _ c.has_run.ensures (ap not c.if-has_run.true) _ c.record_of.ensures
