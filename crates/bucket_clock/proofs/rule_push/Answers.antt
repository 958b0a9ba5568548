use Rattle.bucket_clock.proofs.Cycles.{push-bare, push-far, push-full, push_goes}
use Rattle.bucket_clock.proofs.rule_push.Goals as goal

pub returns-then-k-x : goal.returns-then-k-x
returns-then-k-x c = push-far c.args.k c.args.held _ c.args.x c.if-k-x.true c.refuse.ensures

pub returns-then-is_untagged : goal.returns-then-is_untagged
returns-then-is_untagged c = push-bare c.args.k c.args.held _ c.args.x _ c.if-k-x.false c.is_untagged.ensures c.if-is_untagged.true c.refuse-then-is_untagged.ensures

pub returns-then-k-held : goal.returns-then-k-held
returns-then-k-held c = push-full c.args.k c.args.held _ c.args.x _ c.if-k-x.false c.is_untagged.ensures c.if-is_untagged.false c.if-k-held.true c.refuse-then-k-held.ensures

pub returns : goal.returns
returns c = push_goes c.args.k c.args.held c.args.x _ c.if-k-x.false c.is_untagged.ensures c.if-is_untagged.false c.if-k-held.false
