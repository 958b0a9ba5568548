use Rattle.cluster_clock_level.proofs.Roots.{replace-bare, replace-empty, replace-goes, still-rules}
use Rattle.cluster_clock_level.proofs.shaped.rule_replace.Goals as goal

pub returns-then-is_untagged : goal.returns-then-is_untagged
returns-then-is_untagged c = still-rules _ _ _ _ _ _ (replace-bare _ _ c.args.place _ _ _ c.is_untagged.ensures c.if-is_untagged.true) _ c.still.ensures

pub returns-then-held-eq0 : goal.returns-then-held-eq0
returns-then-held-eq0 c = still-rules _ _ _ _ _ _ (replace-empty _ _ c.args.place _ _ _ c.is_untagged.ensures c.if-is_untagged.false c.if-held-eq0.true) _ c.still-then-held-eq0.ensures

pub returns : goal.returns
returns c = replace-goes _ _ _ _ _ _ c.is_untagged.ensures c.if-is_untagged.false c.if-held-eq0.false
