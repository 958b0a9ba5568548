use Rattle.cluster_clock_level.proofs.Drains.{Draining}
use Rattle.laws.specs.Prelude.{◌≡◌, ◌≤◌, length, suc}
use Rattle.cluster_clock_level.proofs.shaped.drain_shaped.Given as goal

abbrev pub invariant-loop-run : goal.invariant-loop-run
invariant-loop-run l = (l.run ≤ l.budget) × (length l.store ≡ length l.initial.store) × Draining l.k (suc l.below) l.budget l.initial.pending l.initial.store l.run l.pending l.store
