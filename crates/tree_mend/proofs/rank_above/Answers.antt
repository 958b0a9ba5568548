-- `tree_mend::rank_above` meets its contract.
use Rattle.tree_mend.proofs.Steps.{rank-none, rank-some}
use Rattle.tree_mend.proofs.rank_above.Goals as goal

pub returns-then-node-eq0 : goal.returns-then-node-eq0
returns-then-node-eq0 c = rank-none _ _ c.if-node-eq0.true

pub returns : goal.returns
returns c = rank-some _ _ _ c.if-node-eq0.false c.rank_at.ensures
