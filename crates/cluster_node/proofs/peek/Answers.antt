use Rattle.laws.specs.Prelude.{arith}
use Rattle.cluster_node.proofs.Looks.{peek-none, peek-some}
use Rattle.cluster_node.proofs.Fulls.{peek-full}
use Rattle.cluster_node.proofs.peek.Goals as goal

pub returns-then-count-eq0 : goal.returns-then-count-eq0
returns-then-count-eq0 c = peek-none _ _ _ _ _ c.if-count-eq0.true

pub returns-then-a : goal.returns-then-a
returns-then-a c = peek-full _ _ _ _ _ (λ i. omega (arith, c.type_inv.s i)) c.requires.some c.if-count-eq0.false _ c.low_lead-a.ensures c.if-a.true _ c.counts_ok-fine.ensures

pub returns : goal.returns
returns c = peek-some _ _ _ _ _ _ c.if-count-eq0.false c.peek_each.ensures
