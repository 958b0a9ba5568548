-- `bucket_step::tests::tail_after` meets its contract.
use Rattle.bucket_step.proofs.Read.{tail-is, tail-stays}
use Rattle.bucket_step.proofs.tests.tail_after.Goals as goal

pub returns-then-rank-low : goal.returns-then-rank-low
returns-then-rank-low c = tail-is _ _ _ c.requires.takable _ _ c.if-rank-low.true c.tail_left.ensures

pub returns : goal.returns
returns c = tail-stays _ _ _ c.requires.takable _ _ c.requires.rank_in c.if-rank-low.false c.tail_of.ensures
