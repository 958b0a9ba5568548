-- `trace_bytes::lines::put_length` meets its contract.
use Rattle.laws.specs.Prelude.{ap, sym}
use Rattle.text.proofs.Laws.{laid_none, laid_same, laid_then}
use Rattle.trace_model.specs.Format.{length_word}
use Rattle.trace_model.specs.declared.Version.{Version}
use Rattle.trace_bytes.proofs.lines.put_length.Goals as goal

pub returns-in-One : goal.returns-in-One
unfolding length_word
returns-in-One c = laid_none _ _ _ (ap (λ (v : Version). length_word v c.args.len.0) c.in-One.is)

pub returns-in-Two : goal.returns-in-Two
unfolding length_word
returns-in-Two c = laid_same _ _ _ _ _ _ (ap (λ (v : Version). length_word v c.args.len.0) (sym c.in-Two.is)) (laid_then _ _ _ _ _ _ _ _ c.put_bytes-a.ensures (c.put_number.ensures.0, c.put_number.ensures.2))
