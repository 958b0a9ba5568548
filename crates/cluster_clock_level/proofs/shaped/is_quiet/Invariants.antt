use Rattle.cluster_clock_level.proofs.Drains.{Quiet}
use Rattle.laws.specs.Prelude.{◌≤◌}
use Rattle.cluster_clock_level.proofs.shaped.is_quiet.Given as goal

abbrev pub invariant-loop-i : goal.invariant-loop-i
invariant-loop-i l = (l.i ≤ l.count) × Quiet l.count l.i l.records l.ok
