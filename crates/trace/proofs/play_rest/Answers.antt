-- `trace::play_rest` meets its contract.
use Rattle.trace_model.proofs.Laws.{rest-cut, rest_ended, rest-last, rest_more}
use Rattle.trace.proofs.play_rest.Goals as goal

pub returns-then-not-play : goal.returns-then-not-play
returns-then-not-play c = rest_ended _ _ _ c.requires _ _ c.if-not-play.true

pub returns-then-cut : goal.returns-then-cut
returns-then-cut c = rest-cut _ _ _ c.requires _ _ c.if-not-play.false c.if-cut.true _ _ c.play_bad.ensures

pub returns-then-last : goal.returns-then-last
returns-then-last c = rest-last _ _ _ c.requires _ _ c.if-not-play.false c.if-cut.false c.if-last.true _ _ _ c.play_end.ensures

pub returns : goal.returns
returns c = rest_more _ _ _ c.requires _ _ c.if-not-play.false c.if-cut.false c.if-last.false
