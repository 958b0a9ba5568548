-- `trace_bytes::lines::put_done` meets its contract.
use Rattle.laws.specs.Prelude.{ap, sym}
use Rattle.text.proofs.Laws.{laid_none, laid_same}
use Rattle.trace_model.specs.Format.{done_word}
use Rattle.trace_bytes.proofs.lines.put_done.Goals as goal

pub returns-in-Idle : goal.returns-in-Idle
unfolding done_word
returns-in-Idle c = laid_same _ _ _ _ _ _ (ap done_word (sym c.in-Idle.is)) c.put_bytes.ensures

pub returns-in-Push : goal.returns-in-Push
unfolding done_word
returns-in-Push c = laid_same _ _ _ _ _ _ (ap done_word (sym c.in-Push.is)) c.put_bytes-in-Push.ensures

pub returns-in-Pop : goal.returns-in-Pop
unfolding done_word
returns-in-Pop c = laid_none _ _ _ (ap done_word c.in-Pop.is)

pub returns-in-Replace : goal.returns-in-Replace
unfolding done_word
returns-in-Replace c = laid_none _ _ _ (ap done_word c.in-Replace.is)
