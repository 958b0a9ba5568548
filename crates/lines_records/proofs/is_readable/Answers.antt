-- `lines_records::is_readable` meets its contract.
use Rattle.laws.specs.Prelude.{◌∙◌, ap, not}
use Rattle.lines_records.proofs.Records.{lent, some_in, none_in, unlent}
use Rattle.lines_records.proofs.is_readable.Goals as goal

pub returns-then-not-is_empty : goal.returns-then-not-is_empty
returns-then-not-is_empty c = lent _ (some_in _ _ c.is_empty.ensures c.if-not-is_empty.true)

pub returns-else-not-is_empty : goal.returns-else-not-is_empty
returns-else-not-is_empty c = ap not c.if-not-is_empty.false ∙ unlent _ (none_in _ _ c.is_empty.ensures c.if-not-is_empty.false)
