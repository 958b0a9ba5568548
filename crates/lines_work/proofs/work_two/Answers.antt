use Rattle.laws.specs.Prelude.{eqb, eqb-false, eqb-true, length, not-false, not-true}
use Rattle.lines_work.proofs.Finds.{small}
use Rattle.lines_work.proofs.Works.{goal-ready, swap-both, swap-ready, swap-same}
use Rattle.lines_work.proofs.work_two.Goals as goal

pub goal_of-g-requires : goal.goal_of-g-requires
goal_of-g-requires c = (small c.args.k (length c.args.s.now) c.requires.shaped).power

pub row_at-a-requires : goal.row_at-a-requires
row_at-a-requires c = let z = small c.args.k (length c.args.s.now) c.requires.shaped in (z.lines, z.high, c.requires.fits.0)

pub work_line-requires : goal.work_line-requires
work_line-requires c = swap-ready c.args.k c.args.s.now c.args.size c.args.spot c.args.l _ c.goal_of-g.result c.args.x c.requires.shaped c.requires.fits c.requires.passed c.row_at-a.ensures c.goal_of-g.ensures

pub row_at-b-requires : goal.row_at-b-requires
row_at-b-requires c = let z = small c.args.k (length c.args.s.now) c.requires.shaped in (z.lines, z.high, rw c.goal_of-g.ensures c.requires.fits.3)

pub work_line-requires-then-not-same : goal.work_line-requires-then-not-same
work_line-requires-then-not-same c = goal-ready c.args.k c.args.s.now c.args.size c.args.spot c.args.l _ c.goal_of-g.result c.args.x c.requires.shaped c.requires.fits c.requires.passed c.row_at-a.ensures c.goal_of-g.ensures _ _ (eqb-false c.args.l c.goal_of-g.result (not-true (eqb c.args.l c.goal_of-g.result) c.if-not-same.true-raw)) c.work_line.ensures c.row_at-b.ensures

pub returns-then-not-same : goal.returns-then-not-same
returns-then-not-same c = swap-both c.args.k c.args.s.now c.args.size c.args.spot c.args.l _ c.goal_of-g.result c.args.x c.requires.shaped c.requires.fits c.requires.passed c.row_at-a.ensures c.goal_of-g.ensures _ _ _ (eqb-false c.args.l c.goal_of-g.result (not-true (eqb c.args.l c.goal_of-g.result) c.if-not-same.true-raw)) c.work_line.ensures c.row_at-b.ensures c.work_line-then-not-same.ensures

pub returns-else-not-same : goal.returns-else-not-same
returns-else-not-same c = swap-same c.args.k c.args.s.now c.args.size c.args.spot c.args.l _ c.goal_of-g.result c.args.x c.requires.shaped c.requires.fits c.requires.passed c.row_at-a.ensures c.goal_of-g.ensures _ (eqb-true c.args.l c.goal_of-g.result (not-false (eqb c.args.l c.goal_of-g.result) c.if-not-same.false-raw)) c.work_line.ensures
