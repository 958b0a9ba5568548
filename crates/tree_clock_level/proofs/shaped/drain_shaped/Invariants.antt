-- `tree_clock_level::shaped::drain_shaped` meets its contract.
use Rattle.laws.specs.Prelude.{◌≡◌, length, suc}
use Rattle.tree_clock_level.proofs.Drains.{Draining}
use Rattle.tree_clock_level.proofs.shaped.drain_shaped.Given as goal

abbrev pub invariant-loop-run : goal.invariant-loop-run
invariant-loop-run l = (length l.store ≡ length l.initial.store) × Draining l.order (suc l.below) l.budget l.initial.now l.initial.store l.run l.now l.store
