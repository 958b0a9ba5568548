-- `trace::play_bad` meets its contract.
use Rattle.laws.specs.Prelude.{ap, refl}
use Rattle.text.proofs.Laws.{laid_then, laid-to}
use Rattle.trace_model.specs.Format.{bad_line}
use Rattle.trace.proofs.play_bad.Goals as goal

pub returns : goal.returns
unfolding bad_line
returns c = (c.carried.ensures.0, laid-to _ _ _ _ _ _ _ (ap bad_line refl) c.carried.ensures.1 (laid_then _ _ _ _ _ _ _ _ c.put_bytes-a.ensures (laid_then _ _ _ _ _ _ _ _ (c.put_number-b.ensures.0, c.put_number-b.ensures.2) c.put_bytes-written.ensures)))
