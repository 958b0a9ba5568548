use Rattle.bucket_clock_step.proofs.Linking.{take-far, take-is}
use Rattle.bucket_clock_step.proofs.buckets.find_first.Goals as goal

pub returns-then-k-way : goal.returns-then-k-way
returns-then-k-way c = take-far _ _ _ c.if-k-way.true

pub returns-then-not-free_link-n : goal.returns-then-not-free_link-n
returns-then-not-free_link-n c = take-is _ _ _ _ _ _ c.if-k-way.false c.bucket_at-low.ensures c.free_link.ensures c.next_of-behind.ensures _ c.if-not-free_link-n.true

pub returns : goal.returns
returns c = (take-is _ _ _ _ _ _ c.if-k-way.false c.bucket_at-low.ensures c.free_link.ensures c.next_of-behind.ensures _ c.if-not-free_link-n.false, c.bucket_at-low.ensures)
