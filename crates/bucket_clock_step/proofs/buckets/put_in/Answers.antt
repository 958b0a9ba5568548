use Rattle.bucket_clock_step.proofs.Linking.{in_is}
use Rattle.bucket_clock_step.proofs.buckets.put_in.Goals as goal

pub returns : goal.returns
returns c = in_is c.args.k c.args.words.now c.args.e c.requires _ _ _ c.next_of-next.ensures c.tail_of-tail.ensures c.link_at-link.ensures.is
