use Rattle.lines_work.proofs.Choices.{end_none, end-some}
use Rattle.lines_work.proofs.blank_end.Goals as goal

pub returns-then-c-k : goal.returns-then-c-k
returns-then-c-k c = end-some c.args.k c.args.s.now c.args.a c.args.c _ _ c.if-c-k.true c.element_at.ensures c.is_blank.ensures

pub returns : goal.returns
returns c = end_none c.args.k c.args.s.now c.args.a c.args.c c.if-c-k.false
