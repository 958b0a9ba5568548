use Rattle.laws.specs.Prelude.{arith, length}
use Rattle.lines_work.proofs.Choices.{at-line, front-none, front-some}
use Rattle.lines_work.proofs.front_of.Goals as goal

pub offset_bounds-s-l : goal.offset_bounds-s-l
offset_bounds-s-l c = omega (arith, at-line c.args.k (length c.args.s.now) c.requires.shaped c.args.l c.requires.line_in)

pub bounds-s-l : goal.bounds-s-l
bounds-s-l c = omega (arith, at-line c.args.k (length c.args.s.now) c.requires.shaped c.args.l c.requires.line_in)

pub row_at-a-requires : goal.row_at-a-requires
row_at-a-requires c = let z = at-line c.args.k (length c.args.s.now) c.requires.shaped c.args.l c.requires.line_in in (z.lines, z.places, c.requires.line_in)

pub offset_bounds-s-a : goal.offset_bounds-s-a
offset_bounds-s-a c = omega (arith, at-line c.args.k (length c.args.s.now) c.requires.shaped c.args.l c.requires.line_in, c.row_at-a.ensures)

pub bounds-s-a : goal.bounds-s-a
bounds-s-a c = omega (arith, at-line c.args.k (length c.args.s.now) c.requires.shaped c.args.l c.requires.line_in, c.row_at-a.ensures)

pub returns-then-c-eq0 : goal.returns-then-c-eq0
returns-then-c-eq0 c = front-none c.args.k c.args.s.now c.args.l c.if-c-eq0.true

pub returns-else-c-eq0 : goal.returns-else-c-eq0
returns-else-c-eq0 c = front-some c.args.k c.args.s.now c.args.l _ c.if-c-eq0.false c.row_at-a.ensures
