use Rattle.laws.specs.Prelude.{arith}
use Rattle.cluster.proofs.Shapes.{shift_is, nodes-shift, nodes-many}
use Rattle.cluster.proofs.nodes.Goals as goal

pub returns-then-levels-gt12 : goal.returns-then-levels-gt12
returns-then-levels-gt12 c = nodes-many _ c.if-levels-gt12.true

pub overflow_sub-result : goal.overflow_sub-result
overflow_sub-result c = omega (arith, shift_is c.args.levels c.if-levels-gt12.false)

pub returns : goal.returns
returns c = nodes-shift _ _ c.if-levels-gt12.false (shift_is c.args.levels c.if-levels-gt12.false)
