use Rattle.laws.specs.Prelude.{arith, refl}
use Rattle.lines_work.proofs.Spots.{put-from, spot-most}
use Rattle.lines_work.proofs.put_at.Goals as goal

pub overflow_mul-b : goal.overflow_mul-b
overflow_mul-b c = omega (arith, spot-most c.args.s.now c.args.a c.args.c c.args.spot c.args.x c.requires.seated)

pub overflow_add-b : goal.overflow_add-b
overflow_add-b c = omega (arith, spot-most c.args.s.now c.args.a c.args.c c.args.spot c.args.x c.requires.seated)

pub overflow_sub-n : goal.overflow_sub-n
overflow_sub-n c = omega (arith, spot-most c.args.s.now c.args.a c.args.c c.args.spot c.args.x c.requires.seated)

pub shift_up-requires : goal.shift_up-requires
shift_up-requires c = omega (arith, spot-most c.args.s.now c.args.a c.args.c c.args.spot c.args.x c.requires.seated)

pub write_element-requires : goal.write_element-requires
write_element-requires c = omega (arith, spot-most c.args.s.now c.args.a c.args.c c.args.spot c.args.x c.requires.seated, c.shift_up.auto.s)

pub returns : goal.returns
returns c = put-from c.args.s.now _ _ c.args.a c.args.c c.args.spot _ _ c.args.x c.requires.seated refl refl c.shift_up.ensures c.write_element.ensures
