-- `tree_clock_level::write_all` meets its contract.
use Rattle.laws.specs.Prelude.{◌≡◌, length}
use Rattle.tree_clock_level.specs.Steps.{written}
use Rattle.tree_clock_level.proofs.write_all.Given as goal

abbrev pub invariant-loop-w : goal.invariant-loop-w
invariant-loop-w l = (length l.s ≡ length l.initial.s) × (l.s ≡ written l.w-index l.fn.writes l.initial.s)
