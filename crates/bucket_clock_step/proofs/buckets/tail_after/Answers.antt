use Rattle.bucket_clock_step.proofs.Linking.{tail-here, tail-stays}
use Rattle.bucket_clock_step.proofs.buckets.tail_after.Goals as goal

pub returns-then-rank-low : goal.returns-then-rank-low
returns-then-rank-low c = tail-here c.args.k c.args.words.now c.args.low c.requires.leaves _ _ c.if-rank-low.true c.tail_left.ensures

pub returns : goal.returns
returns c = tail-stays c.args.k c.args.words.now c.args.low c.requires.leaves _ _ c.requires.rank_in c.if-rank-low.false c.tail_of.ensures
