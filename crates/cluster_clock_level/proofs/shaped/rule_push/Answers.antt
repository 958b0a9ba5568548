use Rattle.cluster_clock_level.proofs.Roots.{push-bare, push-full, push_goes, still-rules}
use Rattle.cluster_clock_level.proofs.shaped.rule_push.Goals as goal

pub returns-then-is_untagged : goal.returns-then-is_untagged
returns-then-is_untagged c = still-rules _ _ _ _ _ _ (push-bare _ _ c.args.place _ _ _ c.is_untagged.ensures c.if-is_untagged.true) _ c.still.ensures

pub returns-then-capacity-held : goal.returns-then-capacity-held
returns-then-capacity-held c = still-rules _ _ _ _ _ _ (push-full _ _ c.args.place _ _ _ c.is_untagged.ensures c.if-is_untagged.false c.if-capacity-held.true) _ c.still-then-capacity-held.ensures

pub returns : goal.returns
returns c = push_goes _ _ _ _ _ _ c.is_untagged.ensures c.if-is_untagged.false c.if-capacity-held.false
