use Rattle.bucket_clock_step.proofs.Storeys.{lead-next, lead-none}
use Rattle.bucket_clock_step.proofs.storey.lead_of.Goals as goal

pub loop-init : goal.loop-init
loop-init c = lead-none _

pub loop-preserved : goal.loop-preserved
loop-preserved c = lead-next _ _ _ c.loop.invariant
