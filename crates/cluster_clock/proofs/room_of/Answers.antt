use Rattle.cluster.proofs.Shapes.{capacity-is, nodes-counted}
use Rattle.laws.specs.Prelude.{arith, mul-le-mul_right}
use Rattle.cluster_clock.proofs.room_of.Goals as goal

pub overflow_mul-result : goal.overflow_mul-result
overflow_mul-result c = let h = (nodes-counted _ _ c.nodes.ensures).within c.requires.1 in omega (arith, h, mul-le-mul_right c.nodes.result c.requires.0)

pub returns : goal.returns
returns c = capacity-is _ _ _ c.requires.1 (nodes-counted _ _ c.nodes.ensures)
