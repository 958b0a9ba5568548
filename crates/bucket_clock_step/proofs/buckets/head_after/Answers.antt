use Rattle.bucket_clock_step.proofs.Linking.{head-here, head-stays}
use Rattle.bucket_clock_step.proofs.buckets.head_after.Goals as goal

pub returns-then-rank-low : goal.returns-then-rank-low
returns-then-rank-low c = head-here c.args.k c.args.words.now c.args.low c.requires.leaves _ c.if-rank-low.true

pub returns : goal.returns
returns c = head-stays c.args.k c.args.words.now c.args.low c.requires.leaves _ _ c.requires.rank_in c.if-rank-low.false c.head_of.ensures
