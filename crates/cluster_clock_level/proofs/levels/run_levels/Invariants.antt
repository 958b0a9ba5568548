use Rattle.cluster_clock_level.proofs.Rounds.{Going}
use Rattle.laws.specs.Prelude.{◌≤◌, length}
use Rattle.cluster_clock_model.specs.Prelude.{pass}
use Rattle.cluster_clock_level.specs.Stage.{work_of}
use Rattle.cluster_clock_level.proofs.levels.run_levels.Given as goal

abbrev pub invariant-loop-i : goal.invariant-loop-i
invariant-loop-i l = (l.i ≤ l.below) × Going l.k l.below l.a l.task l.i l.left l.s (length l.initial.s) (pass l.k l.below 0 (work_of l.initial.task) 0 l.initial.left l.initial.s)
