-- `tree_clock_level::run_levels` meets its contract.
use Rattle.tree_clock_level.proofs.Rounds.{Going}
use Rattle.tree_clock_level.proofs.run_levels.Given as goal

abbrev pub invariant-loop-i : goal.invariant-loop-i
invariant-loop-i l = Going l.order l.below l.s l.g.op l.state l.at l.i l.n l.writes l.load l.records
