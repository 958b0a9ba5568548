use Rattle.bucket_clock.proofs.push.Goals as goal

pub returns : goal.returns
returns c = c.cycle.ensures
