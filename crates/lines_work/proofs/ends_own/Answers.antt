use Rattle.laws.specs.Prelude.{refl}
use Rattle.lines_work.proofs.Choices.{ends-none, ends_some}
use Rattle.lines_work.proofs.ends_own.Goals as goal

pub returns-then-c-eq0 : goal.returns-then-c-eq0
returns-then-c-eq0 c = ends-none c.args.k c.args.l c.args.s.now c.args.a c.args.c c.if-c-eq0.true

pub returns : goal.returns
returns c = ends_some c.args.k c.args.l c.args.s.now c.args.a c.args.c _ _ _ c.if-c-eq0.false refl c.own_rank-first.ensures c.own_rank-last.ensures
