use Rattle.lines_work.proofs.Works.{lined-gives, lined-none, lined-takes}
use Rattle.lines_work.proofs.work_line.Goals as goal

pub returns-then-gives : goal.returns-then-gives
returns-then-gives c = lined-gives c.args.s.now _ c.args.a c.args.c c.args.x c.args.gives c.args.takes c.if-gives-takes.false c.if-gives.true c.take_out.ensures

pub returns-then-takes : goal.returns-then-takes
returns-then-takes c = lined-takes c.args.s.now _ c.args.a c.args.c c.args.x c.args.gives c.args.takes c.if-gives.false c.if-takes.true c.put_at.ensures

pub returns-else-takes : goal.returns-else-takes
returns-else-takes c = lined-none c.args.s.now c.args.a c.args.c c.args.x c.args.gives c.args.takes c.if-gives.false c.if-takes.false
