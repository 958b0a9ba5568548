use Rattle.cluster_node.proofs.ScanCode.{high-none, high-over, high-both}
use Rattle.cluster_node.proofs.high_as.Goals as goal

pub returns-then-s-i-eq0 : goal.returns-then-s-i-eq0
returns-then-s-i-eq0 c = high-none _ _ _ c.if-s-i-eq0.true

pub returns-then-s-k-eq0 : goal.returns-then-s-k-eq0
returns-then-s-k-eq0 c = high-over _ _ _ c.if-s-i-eq0.false c.if-s-k-eq0.true

pub returns : goal.returns
returns c = high-both _ _ _ c.if-s-i-eq0.false c.if-s-k-eq0.false
