use Rattle.bucket_clock_step.proofs.Linking.{out-is}
use Rattle.bucket_clock_step.proofs.buckets.take_out.Goals as goal

pub returns : goal.returns
returns c = out-is c.args.k c.args.words.now c.args.low c.requires _ _ c.element_of-out.ensures c.tail_left.ensures
