use Rattle.laws.specs.Prelude.{arith, length}
use Rattle.lines_work.proofs.Choices.{at-line}
use Rattle.lines_work.proofs.Comes.{come-empty, come-take, giver-in}
use Rattle.lines_work.proofs.Finds.{small}
use Rattle.lines_work.proofs.come_pop.Goals as goal

pub returns-then-held-eq0 : goal.returns-then-held-eq0
returns-then-held-eq0 c = come-empty c.args.k c.args.s.now c.args.held c.requires.counted _ c.if-held-eq0.true c.denied.ensures

pub row_at-requires : goal.row_at-requires
row_at-requires c = let z = small c.args.k (length c.args.s.now) c.requires.shaped in (z.lines, z.high, giver-in c.args.k c.args.s.now c.args.held c.requires.counted c.requires.shaped c.if-held-eq0.false _ c.giver_of-l.ensures)

pub element_at-requires : goal.element_at-requires
element_at-requires c = let l = giver-in c.args.k c.args.s.now c.args.held c.requires.counted c.requires.shaped c.if-held-eq0.false _ c.giver_of-l.ensures in omega (arith, (at-line c.args.k (length c.args.s.now) c.requires.shaped c.giver_of-l.result l).row, (at-line c.args.k (length c.args.s.now) c.requires.shaped c.giver_of-l.result l).low, c.row_at.ensures)

pub returns : goal.returns
returns c = come-take c.args.k c.args.s.now c.args.held c.requires.counted c.if-held-eq0.false _ _ _ c.giver_of-l.ensures c.row_at.ensures c.element_at.ensures
