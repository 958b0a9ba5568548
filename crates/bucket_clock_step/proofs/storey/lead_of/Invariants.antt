use Rattle.bucket_clock_model.specs.Pipe.{lead}
use Rattle.laws.specs.Prelude.{◌≡◌}
use Rattle.bucket_clock_step.proofs.storey.lead_of.Given as goal

abbrev pub invariant-loop : goal.invariant-loop
invariant-loop l = l.j ≡ lead l.counter l.rank
