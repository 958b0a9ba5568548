use Rattle.bucket_clock.proofs.pop.Goals as goal

pub returns : goal.returns
returns c = c.cycle.ensures
