use Rattle.laws.specs.Prelude.{arith, length}
use Rattle.lines_clock.proofs.Cycles.{goal-in, swap-no, swap_rank, swap-yes}
use Rattle.lines_work.proofs.Choices.{at-line}
use Rattle.lines_work.proofs.Finds.{small}
use Rattle.lines_clock.proofs.swap_ok.Goals as goal

pub returns-then-l-k : goal.returns-then-l-k
returns-then-l-k c = swap-no c.args.k c.args.s.now c.args.l c.args.x c.if-l-k.true

pub returns-then-not-in_range : goal.returns-then-not-in_range
returns-then-not-in_range c = swap_rank c.args.k c.args.s.now c.args.l c.args.x _ c.if-l-k.false c.in_range.ensures c.if-not-in_range.true-raw

pub goal_of-g-requires : goal.goal_of-g-requires
goal_of-g-requires c = (small c.args.k (length c.args.s.now) c.requires).power

pub offset_bounds-s-g : goal.offset_bounds-s-g
offset_bounds-s-g c = omega (arith, (goal-in c.args.k c.args.s.now c.args.l c.args.x _ _ c.requires c.if-l-k.false c.in_range.ensures c.if-not-in_range.false-raw c.goal_of-g.ensures))

pub bounds-s-g : goal.bounds-s-g
bounds-s-g c = omega (arith, goal-in c.args.k c.args.s.now c.args.l c.args.x c.goal_of-g.result _ c.requires c.if-l-k.false c.in_range.ensures c.if-not-in_range.false-raw c.goal_of-g.ensures)

pub offset_bounds-s-l : goal.offset_bounds-s-l
offset_bounds-s-l c = omega (arith, (at-line c.args.k (length c.args.s.now) c.requires c.args.l c.if-l-k.false))

pub bounds-s-l : goal.bounds-s-l
bounds-s-l c = omega (arith, (at-line c.args.k (length c.args.s.now) c.requires c.args.l c.if-l-k.false))

pub returns : goal.returns
returns c = swap-yes c.args.k c.args.s.now c.args.l c.args.x c.goal_of-g.result _ c.if-l-k.false c.in_range.ensures c.if-not-in_range.false-raw c.goal_of-g.ensures
