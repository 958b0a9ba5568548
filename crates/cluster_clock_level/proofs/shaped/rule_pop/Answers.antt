use Rattle.cluster_clock_level.proofs.Roots.{pop-empty, pop_goes, still-rules}
use Rattle.cluster_clock_level.proofs.shaped.rule_pop.Goals as goal

pub returns-then-held-eq0 : goal.returns-then-held-eq0
returns-then-held-eq0 c = still-rules _ _ _ _ _ _ (pop-empty _ _ c.args.place _ c.if-held-eq0.true) _ c.still.ensures

pub returns : goal.returns
returns c = pop_goes _ _ _ _ c.if-held-eq0.false
