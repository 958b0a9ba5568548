use Rattle.laws.specs.Prelude.{arith, refl}
use Rattle.lines_work.proofs.Spots.{swap-from}
use Rattle.lines_work.proofs.Works.{swap-few, swap-place}
use Rattle.lines_work.proofs.swap_at.Goals as goal

pub overflow_mul-n : goal.overflow_mul-n
overflow_mul-n c = omega (arith, swap-few c.args.s.now c.args.a c.args.c c.args.spot _ c.args.x c.requires.seated c.requires.words_in.0 c.saturating_sub-n.ensures)

pub shift_down-requires : goal.shift_down-requires
shift_down-requires c = omega (arith, swap-few c.args.s.now c.args.a c.args.c c.args.spot c.saturating_sub-n.result c.args.x c.requires.seated c.requires.words_in.0 c.saturating_sub-n.ensures)

pub overflow_add-b : goal.overflow_add-b
overflow_add-b c = omega (arith, swap-few c.args.s.now c.args.a c.args.c c.args.spot c.saturating_sub-n.result c.args.x c.requires.seated c.requires.words_in.0 c.saturating_sub-n.ensures)

pub write_element-requires : goal.write_element-requires
write_element-requires c = omega (arith, swap-few c.args.s.now c.args.a c.args.c c.args.spot c.saturating_sub-n.result c.args.x c.requires.seated c.requires.words_in.0 c.saturating_sub-n.ensures, c.shift_down.auto.s)

pub returns : goal.returns
returns c = swap-from c.args.s.now _ _ c.args.a c.args.c c.args.spot c.saturating_sub-n.result _ _ c.args.x c.requires.words_in.0 c.requires.words_in.1 c.requires.seated (swap-place c.args.spot c.saturating_sub-n.result c.saturating_sub-n.ensures) refl c.shift_down.ensures refl c.write_element.ensures
