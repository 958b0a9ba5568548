use Rattle.laws.specs.Prelude.{arith}
use Rattle.cluster_node.proofs.ScanCode.{lower-none, lower-over, lower-both}
use Rattle.cluster_node.proofs.lower_than.Goals as goal

pub returns-then-s-i-eq0 : goal.returns-then-s-i-eq0
returns-then-s-i-eq0 c = lower-none _ _ _ c.if-s-i-eq0.true

pub returns-then-s-k-eq0 : goal.returns-then-s-k-eq0
returns-then-s-k-eq0 c = lower-over _ _ _ c.if-s-i-eq0.false c.if-s-k-eq0.true

pub returns : goal.returns
returns c = lower-both _ _ _ _ _ (λ i. omega (arith, c.type_inv.s i)) c.turn_at.ensures c.turn_at-2.ensures c.if-s-i-eq0.false c.if-s-k-eq0.false
