use Rattle.laws.specs.Prelude.{ap, arith}
use Rattle.lines_clock.proofs.Cycles.{due-fit, had-apart, had-put, had-rest, had-same, had-take}
use Rattle.lines_model.specs.Layout.{word}
use Rattle.lines_clock.proofs.sizes_had.Goals as goal

pub overflow_sub-result : goal.overflow_sub-result
overflow_sub-result c = omega (arith, (due-fit c.args.k c.args.s.now c.args.due _ c.in-Put.is c.requires.passes).1)

pub returns-then-l-g : goal.returns-then-l-g
returns-then-l-g c = had-same c.args.k c.args.s.now c.args.due _ c.goal_of-g.result _ c.in-Swap.is c.goal_of-g.ensures c.if-l-g.true (rw c.goal_of-g.ensures (due-fit c.args.k c.args.s.now c.args.due _ c.in-Swap.is c.requires.passes).1)

pub overflow_sub-result-in-Swap : goal.overflow_sub-result-in-Swap
overflow_sub-result-in-Swap c = omega (arith, (due-fit c.args.k c.args.s.now c.args.due _ c.in-Swap.is c.requires.passes).1, ap (word c.args.s.now) c.goal_of-g.ensures)

pub returns-in-Rest : goal.returns-in-Rest
returns-in-Rest c = had-rest c.args.k c.args.s.now c.args.due c.in-Rest.is

pub returns-in-Put : goal.returns-in-Put
returns-in-Put c = had-put c.args.k c.args.s.now c.args.due _ _ c.in-Put.is

pub returns-in-Take : goal.returns-in-Take
returns-in-Take c = had-take c.args.k c.args.s.now c.args.due _ c.in-Take.is

pub returns-else-l-g : goal.returns-else-l-g
returns-else-l-g c = had-apart c.args.k c.args.s.now c.args.due _ c.goal_of-g.result _ c.in-Swap.is c.goal_of-g.ensures c.if-l-g.false
