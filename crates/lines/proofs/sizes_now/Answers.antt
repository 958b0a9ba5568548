use Rattle.lines.proofs.Calls.{sizes-put, sizes-rest, sizes-swap, sizes-take}
use Rattle.lines.proofs.sizes_now.Goals as goal

pub returns-in-Rest : goal.returns-in-Rest
returns-in-Rest c = sizes-rest c.args.k c.args.s.now c.args.due c.in-Rest.is

pub returns-in-Put : goal.returns-in-Put
returns-in-Put c = sizes-put c.args.k c.args.s.now c.args.due _ _ c.in-Put.is

pub returns-in-Take : goal.returns-in-Take
returns-in-Take c = sizes-take c.args.k c.args.s.now c.args.due _ c.in-Take.is

pub returns-in-Swap : goal.returns-in-Swap
returns-in-Swap c = sizes-swap c.args.k c.args.s.now c.args.due _ c.goal_of-g.result _ c.in-Swap.is c.goal_of-g.ensures
