-- `lines_records::clear_lent` meets its contract.
use Rattle.laws.specs.Prelude.{ap, not}
use Rattle.lines_records.proofs.Records.{none_in, some_in}
use Rattle.lines_records.proofs.Told.{clear-short, clear-stood, clear-wrote}
use Rattle.lines_records.proofs.clear_lent.Goals as goal

pub returns-then-is_empty : goal.returns-then-is_empty
returns-then-is_empty c = clear-short _ _ _ (none_in _ _ c.is_empty.ensures c.if-is_empty.true)

pub returns-else-has_run : goal.returns-else-has_run
returns-else-has_run c = clear-stood _ _ _ (some_in _ _ c.is_empty.ensures c.if-is_empty.false) _ _ _ c.clear-c.ensures _ c.has_run.ensures (ap not c.if-has_run.false)

pub returns-then-has_run : goal.returns-then-has_run
returns-then-has_run c = clear-wrote _ _ _ (some_in _ _ c.is_empty.ensures c.if-is_empty.false) _ _ _ c.clear-c.ensures _ c.has_run.ensures (ap not c.if-has_run.true) _ c.bare.ensures
