use Rattle.laws.specs.Prelude.{refl}
use Rattle.lines_work.proofs.Spots.{take-from}
use Rattle.lines_work.proofs.take_out.Goals as goal

pub returns : goal.returns
returns c = take-from c.args.s.now _ _ c.args.a c.args.c _ _ _ c.requires.0 refl c.shift_down.ensures refl c.no_element.ensures c.write_element.ensures
