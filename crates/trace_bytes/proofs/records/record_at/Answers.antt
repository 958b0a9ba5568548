-- `trace_bytes::records::record_at` meets its contract.
use Rattle.laws.specs.Prelude.{◌∙◌, arith}
use Rattle.trace_model.proofs.Laws.{size-least}
use Rattle.trace_bytes.proofs.Read.{entry-made}
use Rattle.trace_bytes.proofs.records.record_at.Goals as goal

pub number_at-requires : goal.number_at-requires
number_at-requires c = omega (arith, size-least c.args.version)

pub number_at-requires-2 : goal.number_at-requires-2
number_at-requires-2 c = omega (arith, size-least c.args.version)

pub bounds-bytes-at : goal.bounds-bytes-at
bounds-bytes-at c = omega (arith, size-least c.args.version)

pub returns : goal.returns
returns c = c.record_of.ensures ∙ entry-made _ _ _ _ _ _ c.number_at.ensures c.number_at-2.ensures c.length_at.ensures
