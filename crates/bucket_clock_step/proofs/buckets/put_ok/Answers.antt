use Rattle.bucket_clock_step.proofs.Linking.{put-far, put_is}
use Rattle.bucket_clock_step.proofs.buckets.put_ok.Goals as goal

pub returns-then-k-rank : goal.returns-then-k-rank
returns-then-k-rank c = put-far _ _ _ c.if-k-rank.true

pub returns : goal.returns
returns c = put_is _ _ _ _ _ _ _ _ c.if-k-rank.false c.head_of-head.ensures c.tail_of-tail.ensures c.free_link-free.ensures c.next_of-next.ensures c.next_of-behind.ensures
