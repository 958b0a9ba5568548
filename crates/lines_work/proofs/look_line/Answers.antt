use Rattle.laws.specs.Prelude.{arith, length}
use Rattle.lines_work.proofs.Choices.{at-line, look_is}
use Rattle.lines_work.proofs.Finds.{small}
use Rattle.lines_work.proofs.look_line.Goals as goal

pub row_at-a-requires : goal.row_at-a-requires
row_at-a-requires c = let z = at-line c.args.k (length c.args.s.now) c.requires.shaped c.args.l c.requires.line_in.0 in (z.lines, z.places, c.requires.line_in.0)

pub scan-row-requires : goal.scan-row-requires
scan-row-requires c = let z = at-line c.args.k (length c.args.s.now) c.requires.shaped c.args.l c.requires.line_in.0 in (omega (arith, z.places, c.requires.line_in.1), omega (arith, z.row, c.row_at-a.ensures, c.requires.line_in.1))

pub ends_own-own-requires : goal.ends_own-own-requires
ends_own-own-requires c = let z = at-line c.args.k (length c.args.s.now) c.requires.shaped c.args.l c.requires.line_in.0 in record { power = (small c.args.k (length c.args.s.now) c.requires.shaped).power; words_in = (omega (arith, z.places, c.requires.line_in.1), omega (arith, z.row, c.row_at-a.ensures, c.requires.line_in.1)) }

pub blank_end-end-requires : goal.blank_end-end-requires
blank_end-end-requires c = let z = at-line c.args.k (length c.args.s.now) c.requires.shaped c.args.l c.requires.line_in.0 in (omega (arith, z.places, c.requires.line_in.1), omega (arith, z.row, c.row_at-a.ensures))

pub returns : goal.returns
returns c = look_is c.args.k c.args.l c.args.s.now (small c.args.k (length c.args.s.now) c.requires.shaped).power _ _ _ _ _ _ c.row_at-a.ensures c.scan-row.ensures c.ends_own-own.ensures c.blank_end-end.ensures
