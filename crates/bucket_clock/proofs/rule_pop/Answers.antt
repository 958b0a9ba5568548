use Rattle.bucket_clock.proofs.Cycles.{pop_goes, pop-none}
use Rattle.bucket_clock.proofs.rule_pop.Goals as goal

pub returns-then-held-eq0 : goal.returns-then-held-eq0
returns-then-held-eq0 c = pop-none c.args.k c.args.held _ c.if-held-eq0.true c.refuse.ensures

pub returns : goal.returns
returns c = pop_goes c.args.k c.args.held c.if-held-eq0.false
