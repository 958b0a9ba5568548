use Rattle.cluster_clock_level.proofs.Roots.{idle-is, rules-as, still-rules}
use Rattle.cluster_clock_level.proofs.shaped.rule.Goals as goal

pub returns-in-Idle : goal.returns-in-Idle
returns-in-Idle c = rules-as _ _ _ _ _ _ c.in-Idle.is _ (still-rules _ _ _ _ _ _ (idle-is _ _ c.args.place _) _ c.still.ensures)

pub returns-in-Push : goal.returns-in-Push
returns-in-Push c = rules-as _ _ _ _ _ _ c.in-Push.is _ c.rule_push.ensures

pub returns-in-Pop : goal.returns-in-Pop
returns-in-Pop c = rules-as _ _ _ _ _ _ c.in-Pop.is _ c.rule_pop.ensures

pub returns-in-Replace : goal.returns-in-Replace
returns-in-Replace c = rules-as _ _ _ _ _ _ c.in-Replace.is _ c.rule_replace.ensures
