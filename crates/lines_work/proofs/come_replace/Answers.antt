use Rattle.laws.specs.Prelude.{arith, length}
use Rattle.lines_work.proofs.Choices.{at-line}
use Rattle.lines_work.proofs.Comes.{come-barred, come-none, come-swap, giver-in, goal-in}
use Rattle.lines_work.proofs.Finds.{room, small}
use Rattle.lines_work.proofs.come_replace.Goals as goal

pub returns-then-held-eq0 : goal.returns-then-held-eq0
returns-then-held-eq0 c = come-none c.args.k c.args.s.now c.args.held c.requires.counted _ c.args.x c.if-held-eq0.true c.denied.ensures

pub goal_of-g-requires : goal.goal_of-g-requires
goal_of-g-requires c = (small c.args.k (length c.args.s.now) c.requires.shaped).power

pub room_after-requires : goal.room_after-requires
room_after-requires c = let l = giver-in c.args.k c.args.s.now c.args.held c.requires.counted c.requires.shaped c.if-held-eq0.false _ c.giver_of-l.ensures in omega (arith, goal-in c.args.k c.args.s.now c.requires.shaped c.args.x c.requires.ranged c.giver_of-l.result c.goal_of-g.result l c.goal_of-g.ensures, room c.args.k (length c.args.s.now) c.requires.shaped)

pub returns-then-not-room_after : goal.returns-then-not-room_after
returns-then-not-room_after c = come-barred c.args.k c.args.s.now c.args.held c.requires.counted _ c.args.x _ _ _ c.if-held-eq0.false c.giver_of-l.ensures c.goal_of-g.ensures c.room_after.ensures c.if-not-room_after.true-raw c.denied-then-not-room_after.ensures

pub row_at-requires : goal.row_at-requires
row_at-requires c = let z = small c.args.k (length c.args.s.now) c.requires.shaped in (z.lines, z.high, giver-in c.args.k c.args.s.now c.args.held c.requires.counted c.requires.shaped c.if-held-eq0.false _ c.giver_of-l.ensures)

pub element_at-requires : goal.element_at-requires
element_at-requires c = let l = giver-in c.args.k c.args.s.now c.args.held c.requires.counted c.requires.shaped c.if-held-eq0.false _ c.giver_of-l.ensures in omega (arith, (at-line c.args.k (length c.args.s.now) c.requires.shaped c.giver_of-l.result l).row, (at-line c.args.k (length c.args.s.now) c.requires.shaped c.giver_of-l.result l).low, c.row_at.ensures)

pub returns : goal.returns
returns c = come-swap c.args.k c.args.s.now c.args.held c.requires.counted c.if-held-eq0.false _ _ _ c.giver_of-l.ensures c.row_at.ensures c.element_at.ensures c.args.x _ _ c.goal_of-g.ensures c.room_after.ensures c.if-not-room_after.false-raw
