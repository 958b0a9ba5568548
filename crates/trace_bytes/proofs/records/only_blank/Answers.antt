-- `trace_bytes::records::only_blank` meets its contract.
use Rattle.laws.specs.Prelude.{◌∙◌, sym}
use Rattle.trace_bytes.proofs.records.only_blank.Goals as goal

pub returns-then-is_blank : goal.returns-then-is_blank
returns-then-is_blank c = rw (← sym c.if-is_blank.true ∙ c.is_blank.ensures)

pub returns : goal.returns
returns c = rw (← sym c.if-is_blank.false ∙ c.is_blank.ensures)
