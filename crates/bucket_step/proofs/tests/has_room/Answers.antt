-- `bucket_step::tests::has_room` meets its contract.
use Rattle.bucket_step.proofs.Read.{top_in}
use Rattle.bucket_step.proofs.tests.has_room.Goals as goal

pub bounds-bits-k : goal.bounds-bits-k
bounds-bits-k c = top_in _ _ _ c.requires
