use Rattle.laws.specs.Prelude.{arith, length}
use Rattle.lines_clock.proofs.Cycles.{put-no, put-yes}
use Rattle.lines_work.proofs.Choices.{at-line}
use Rattle.lines_work.proofs.Finds.{small}
use Rattle.lines_clock.proofs.put_ok.Goals as goal

pub returns-then-l-k : goal.returns-then-l-k
returns-then-l-k c = put-no c.args.k c.args.s.now c.args.l c.args.x c.if-l-k.true

pub goal_of-requires : goal.goal_of-requires
goal_of-requires c = (small c.args.k (length c.args.s.now) c.requires).power

pub offset_bounds-s-l : goal.offset_bounds-s-l
offset_bounds-s-l c = omega (arith, (at-line c.args.k (length c.args.s.now) c.requires c.args.l c.if-l-k.false))

pub bounds-s-l : goal.bounds-s-l
bounds-s-l c = omega (arith, (at-line c.args.k (length c.args.s.now) c.requires c.args.l c.if-l-k.false))

pub returns : goal.returns
returns c = put-yes c.args.k c.args.s.now c.args.l c.args.x _ _ c.if-l-k.false c.in_range.ensures c.goal_of.ensures
