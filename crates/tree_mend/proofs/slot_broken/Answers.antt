-- `tree_mend::slot_broken` meets its contract.
use Rattle.tree_mend.proofs.Steps.{broken-empty, broken-full}
use Rattle.tree_mend.proofs.slot_broken.Goals as goal

pub returns-then-a-eq0 : goal.returns-then-a-eq0
returns-then-a-eq0 c = broken-empty _ _ _ _ c.slot_at-a.ensures _ c.counts_under-sum.ensures _ c.is_blank.ensures c.if-a-eq0.true

pub returns : goal.returns
returns c = broken-full _ _ _ _ c.slot_at-a.ensures _ c.counts_under-sum.ensures c.if-a-eq0.false
