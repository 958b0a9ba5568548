-- `bucket_step::tests::is_whole` meets its contract.
use Rattle.bucket_step.proofs.Read.{top_in}
use Rattle.bucket_step.proofs.tests.is_whole.Goals as goal

pub bounds-bits-k : goal.bounds-bits-k
bounds-bits-k c = top_in _ _ _ c.requires
