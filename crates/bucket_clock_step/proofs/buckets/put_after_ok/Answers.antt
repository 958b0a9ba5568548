use Rattle.bucket_clock_step.proofs.Linking.{after_is, after_tail, put-far}
use Rattle.bucket_clock_step.proofs.buckets.put_after_ok.Goals as goal

pub returns-then-k-rank : goal.returns-then-k-rank
returns-then-k-rank c = put-far _ _ _ c.if-k-rank.true

pub returns-then-tail-low : goal.returns-then-tail-low
returns-then-tail-low c = after_tail c.args.k c.args.words.now c.args.low c.requires _ _ c.tail_after-tail.ensures c.if-tail-low.true

pub returns : goal.returns
returns c = after_is c.args.k c.args.words.now c.args.low c.requires _ _ _ _ c.if-k-rank.false c.head_after-head.ensures c.tail_after-tail.ensures c.if-tail-low.false c.next_of-behind.ensures
