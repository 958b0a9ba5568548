-- `trace::play_record` meets its contract.
use Rattle.trace_model.proofs.Laws.{record-bad, record-ended, record-good}
use Rattle.trace.proofs.play_record.Goals as goal

pub returns-then-not-play : goal.returns-then-not-play
returns-then-not-play c = record-ended _ _ _ c.requires.1 _ c.if-not-play.true

pub returns-in-None : goal.returns-in-None
returns-in-None c = record-bad _ _ _ c.requires.1 _ _ c.if-not-play.false _ c.record_at.ensures _ _ c.in-None.is c.play_bad.ensures

pub returns-in-Some : goal.returns-in-Some
returns-in-Some c = record-good _ _ _ c.requires.1 _ _ c.if-not-play.false _ c.record_at.ensures _ _ _ _ c.in-Some.is c.play_good.ensures
