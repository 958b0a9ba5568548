use Rattle.laws.specs.Prelude.{refl}
use Rattle.lines_work.proofs.Works.{looked-put, looked-rest, looked-take}
use Rattle.lines_work.proofs.look_lines.Goals as goal

pub returns-in-Rest : goal.returns-in-Rest
returns-in-Rest c = looked-rest c.args.k c.args.s.now c.args.size c.args.due _ c.in-Rest.is refl

pub returns-in-Put : goal.returns-in-Put
returns-in-Put c = looked-put c.args.k c.args.s.now c.args.size c.args.due _ _ _ c.in-Put.is c.look_line.ensures

pub returns-in-Take : goal.returns-in-Take
returns-in-Take c = looked-take c.args.k c.args.s.now c.args.size c.args.due _ _ c.in-Take.is c.look_line-in-Take.ensures
