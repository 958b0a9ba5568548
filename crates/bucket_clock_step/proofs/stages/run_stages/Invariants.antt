use Rattle.bucket_clock_model.specs.Desk.{desk, stages}
use Rattle.bucket_clock_step.proofs.Rounds.{Going}
use Rattle.laws.specs.Prelude.{length}
use Rattle.bucket_clock_step.proofs.stages.run_stages.Given as goal

abbrev pub invariant-loop-e : goal.invariant-loop-e
invariant-loop-e l = Going l.k (length l.initial.bits) (length l.initial.counts) (length l.words) (stages l.k 0 l.k.storeys l.initial.work (desk l.initial.bits l.initial.counts l.words l.initial.left)) (desk l.bits l.counts l.words l.left) l.work l.base l.width l.e
