use Rattle.bucket_clock_step.proofs.Storeys.{ok-idle, ok-pop, ok-push}
use Rattle.bucket_clock_step.proofs.storey.storey_ok.Goals as goal

pub returns-in-Idle : goal.returns-in-Idle
returns-in-Idle c = ok-idle _ _ _ _ _ _ c.args.g c.in-Idle.is

pub returns-in-Push : goal.returns-in-Push
returns-in-Push c = ok-push _ _ _ _ _ _ c.args.g _ _ c.in-Push.is c.push_ok.ensures

pub returns-in-Pop : goal.returns-in-Pop
returns-in-Pop c = ok-pop _ _ _ _ _ _ c.args.g _ c.in-Pop.is c.take_ok.ensures
