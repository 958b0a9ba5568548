-- `trace_bytes::records::length_at` meets its contract.
use Rattle.laws.specs.Prelude.{◌∙◌, ap, arith, sym}
use Rattle.trace_model.specs.Format.{length_at, record_bytes}
use Rattle.trace_model.specs.declared.Version.{Version}
use Rattle.trace_bytes.proofs.records.length_at.Goals as goal

pub overflow_add-at : goal.overflow_add-at
overflow_add-at c = omega (arith, ap record_bytes c.in-Two.is)

pub number_at-requires : goal.number_at-requires
number_at-requires c = omega (arith, ap record_bytes c.in-Two.is)

pub returns-in-One : goal.returns-in-One
unfolding length_at
returns-in-One c = sym (ap (λ (v : Version). length_at v c.args.bytes.now c.args.at) c.in-One.is)

pub returns-in-Two : goal.returns-in-Two
unfolding length_at
returns-in-Two c = c.number_at.ensures ∙ sym (ap (λ (v : Version). length_at v c.args.bytes.now c.args.at) c.in-Two.is)
