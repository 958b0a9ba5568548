use Rattle.bucket_clock.proofs.replace.Goals as goal

pub returns : goal.returns
returns c = c.cycle.ensures
