use Rattle.lines_clock.proofs.Cycles.{due-as, rest_ok, take_as}
use Rattle.laws.specs.Prelude.{arith, length, ◌∙◌}
use Rattle.lines_work.proofs.Finds.{room}
use Rattle.lines_clock.proofs.due_ok.Goals as goal

pub has_room-requires : goal.has_room-requires
has_room-requires c = omega (arith, room c.args.k (length c.args.s.now) c.requires)

pub returns-in-Rest : goal.returns-in-Rest
returns-in-Rest c = due-as c.args.k c.args.s.now c.args.due _ c.in-Rest.is _ (rest_ok c.args.k c.args.s.now)

pub returns-in-Take : goal.returns-in-Take
returns-in-Take c = due-as c.args.k c.args.s.now c.args.due _ c.in-Take.is _ (c.has_room.ensures ∙ take_as c.args.k c.args.s.now _)
