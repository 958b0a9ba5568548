-- `trace_bytes::lines::put_refusal` meets its contract.
use Rattle.laws.specs.Prelude.{ap, sym}
use Rattle.text.proofs.Laws.{laid_none, laid_same}
use Rattle.trace_model.specs.Format.{refusal_word}
use Rattle.trace_bytes.proofs.lines.put_refusal.Goals as goal

pub returns-in-TooSoon : goal.returns-in-TooSoon
unfolding refusal_word
returns-in-TooSoon c = laid_same _ _ _ _ _ _ (ap refusal_word (sym c.in-TooSoon.is)) c.put_bytes.ensures

pub returns-in-Full : goal.returns-in-Full
unfolding refusal_word
returns-in-Full c = laid_same _ _ _ _ _ _ (ap refusal_word (sym c.in-Full.is)) c.put_bytes-in-Full.ensures

pub returns-in-Empty : goal.returns-in-Empty
unfolding refusal_word
returns-in-Empty c = laid_same _ _ _ _ _ _ (ap refusal_word (sym c.in-Empty.is)) c.put_bytes-in-Empty.ensures

pub returns-in-NoTag : goal.returns-in-NoTag
unfolding refusal_word
returns-in-NoTag c = laid_same _ _ _ _ _ _ (ap refusal_word (sym c.in-NoTag.is)) c.put_bytes-in-NoTag.ensures

pub returns-in-BadShape : goal.returns-in-BadShape
unfolding refusal_word
returns-in-BadShape c = laid_none _ _ _ (ap refusal_word c.in-BadShape.is)

pub returns-in-Damaged : goal.returns-in-Damaged
unfolding refusal_word
returns-in-Damaged c = laid_none _ _ _ (ap refusal_word c.in-Damaged.is)

pub returns-in-BadRank : goal.returns-in-BadRank
unfolding refusal_word
returns-in-BadRank c = laid_none _ _ _ (ap refusal_word c.in-BadRank.is)

pub returns-in-BadPort : goal.returns-in-BadPort
unfolding refusal_word
returns-in-BadPort c = laid_none _ _ _ (ap refusal_word c.in-BadPort.is)

pub returns-in-NoHeap : goal.returns-in-NoHeap
unfolding refusal_word
returns-in-NoHeap c = laid_none _ _ _ (ap refusal_word c.in-NoHeap.is)
