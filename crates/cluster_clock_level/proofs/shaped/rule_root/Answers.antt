use Rattle.cluster_clock_level.proofs.Roots.{root-bad, root-idle, root-rules}
use Rattle.cluster_clock_level.proofs.shaped.rule_root.Goals as goal

pub returns-then-not-asks_something : goal.returns-then-not-asks_something
returns-then-not-asks_something c = root-idle _ _ _ _ _ c.asks_something.ensures c.if-not-asks_something.true-raw _ c.still.ensures

pub returns-in_err-g : goal.returns-in_err-g
returns-in_err-g c = root-bad _ _ _ _ _ c.asks_something.ensures c.if-not-asks_something.false-raw c.in_err-g.ensures _ c.from_residual.ensures

pub returns : goal.returns
returns c = root-rules _ _ _ _ _ c.asks_something.ensures c.if-not-asks_something.false-raw _ c.in_ok-g.ensures _ c.rule.ensures
