use Rattle.bucket_clock.proofs.Cycles.{idle-goes, rules-as}
use Rattle.bucket_clock.proofs.rule.Goals as goal

pub returns-in-Idle : goal.returns-in-Idle
returns-in-Idle c = rules-as c.args.k c.args.request _ c.args.held _ c.in-Idle.is (idle-goes c.args.k c.args.held)

pub returns-in-Push : goal.returns-in-Push
returns-in-Push c = rules-as c.args.k c.args.request _ c.args.held _ c.in-Push.is c.rule_push.ensures

pub returns-in-Pop : goal.returns-in-Pop
returns-in-Pop c = rules-as c.args.k c.args.request _ c.args.held _ c.in-Pop.is c.rule_pop.ensures

pub returns-in-Replace : goal.returns-in-Replace
returns-in-Replace c = rules-as c.args.k c.args.request _ c.args.held _ c.in-Replace.is c.rule_replace.ensures
