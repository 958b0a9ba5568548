-- `packed::depth_of` meets its contract.
use Rattle.laws.specs.Prelude.{arith}
use Rattle.packed.proofs.Shapes.{depth-here, depth-less, depth-none}
use Rattle.packed.proofs.depth_of.Goals as goal

pub returns-then-power-t : goal.returns-then-power-t
returns-then-power-t c = depth-here _ c.loop-k.k _ _ c.loop-k-test.true c.loop-k.invariant.1 c.power.ensures c.if-power-t.true

pub loop-k-preserved : goal.loop-k-preserved
loop-k-preserved c = (omega arith, depth-less _ c.loop-k.k _ _ c.loop-k-test.true c.loop-k.invariant.1 c.power.ensures c.if-power-t.false)

pub returns : goal.returns
returns c = depth-none _ c.loop-k.k _ (omega arith) c.loop-k.invariant.1
