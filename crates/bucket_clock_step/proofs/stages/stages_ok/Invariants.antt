use Rattle.bucket_clock_model.specs.Desk.{desk, stages_ok}
use Rattle.bucket_clock_step.proofs.Rounds.{Testing}
use Rattle.bucket_clock_step.proofs.stages.stages_ok.Given as goal

abbrev pub invariant-loop-e : goal.invariant-loop-e
invariant-loop-e l = Testing l.k (desk l.bits l.counts l.words l.records) (stages_ok l.k 0 l.k.storeys l.initial.work (desk l.bits l.counts l.words l.records)) l.ok l.work l.base l.width l.e
