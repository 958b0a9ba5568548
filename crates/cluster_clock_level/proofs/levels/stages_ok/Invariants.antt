use Rattle.cluster_clock_level.proofs.Rounds.{Testing}
use Rattle.laws.specs.Prelude.{◌≤◌}
use Rattle.cluster_clock_model.specs.Prelude.{stages_ok}
use Rattle.cluster_clock_level.proofs.levels.stages_ok.Given as goal

abbrev pub invariant-loop-i : goal.invariant-loop-i
invariant-loop-i l = (l.i ≤ l.below) × Testing l.k l.below l.limit l.a l.i l.records l.s l.ok (stages_ok l.k l.below 0 0 l.records l.s)
