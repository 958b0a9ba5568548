use Rattle.bucket_clock.proofs.Cycles.{replace-bare, replace-far, replace-goes, replace-none}
use Rattle.bucket_clock.proofs.rule_replace.Goals as goal

pub returns-then-k-x : goal.returns-then-k-x
returns-then-k-x c = replace-far c.args.k c.args.held _ c.args.x c.if-k-x.true c.refuse.ensures

pub returns-then-is_untagged : goal.returns-then-is_untagged
returns-then-is_untagged c = replace-bare c.args.k c.args.held _ c.args.x _ c.if-k-x.false c.is_untagged.ensures c.if-is_untagged.true c.refuse-then-is_untagged.ensures

pub returns-then-held-eq0 : goal.returns-then-held-eq0
returns-then-held-eq0 c = replace-none c.args.k c.args.held _ c.args.x _ c.if-k-x.false c.is_untagged.ensures c.if-is_untagged.false c.if-held-eq0.true c.refuse-then-held-eq0.ensures

pub returns : goal.returns
returns c = replace-goes c.args.k c.args.held c.args.x _ c.if-k-x.false c.is_untagged.ensures c.if-is_untagged.false c.if-held-eq0.false
