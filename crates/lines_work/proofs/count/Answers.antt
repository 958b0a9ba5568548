use Rattle.lines_work.proofs.Comes.{count-put, count-rest, count-swap, count-take}
use Rattle.lines_work.proofs.count.Goals as goal

pub returns-in-Rest : goal.returns-in-Rest
returns-in-Rest c = count-rest c.args.k c.args.s.now c.args.due c.in-Rest.is

pub returns-in-Put : goal.returns-in-Put
returns-in-Put c = count-put c.args.k c.args.s.now c.args.due _ _ c.in-Put.is

pub returns-in-Take : goal.returns-in-Take
returns-in-Take c = count-take c.args.k c.args.s.now c.args.due _ c.in-Take.is

pub returns-in-Swap : goal.returns-in-Swap
returns-in-Swap c = count-swap c.args.k c.args.s.now c.args.due _ c.goal_of-g.result _ c.in-Swap.is c.goal_of-g.ensures
