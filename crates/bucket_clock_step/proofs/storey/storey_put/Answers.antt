use Rattle.bucket_clock_step.proofs.Storeys.{put}
use Rattle.bucket_clock_step.proofs.storey.storey_put.Goals as goal

pub returns : goal.returns
returns c = put _ _ _ _ _ _ c.with-full.ensures
