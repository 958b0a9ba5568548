-- `bucket_step::tests::head_after` meets its contract.
use Rattle.bucket_step.proofs.Read.{head-is, head-stays}
use Rattle.bucket_step.proofs.tests.head_after.Goals as goal

pub returns-then-rank-low : goal.returns-then-rank-low
returns-then-rank-low c = head-is _ _ _ c.requires.takable _ c.if-rank-low.true

pub returns : goal.returns
returns c = head-stays _ _ _ c.requires.takable _ _ c.requires.rank_in c.if-rank-low.false c.head_of.ensures
