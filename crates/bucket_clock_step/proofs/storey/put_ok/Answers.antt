use Rattle.bucket_clock_step.proofs.Storeys.{put_is}
use Rattle.bucket_clock_step.proofs.storey.put_ok.Goals as goal

pub returns : goal.returns
returns c = put_is _ _ _ _ _ _ _ c.bit-on.ensures
