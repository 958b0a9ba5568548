-- `tree_clock_level::records::is_quiet` meets its contract.
use Rattle.tree_clock_level.proofs.Works.{Asking}
use Rattle.tree_clock_level.proofs.records.is_quiet.Given as goal

abbrev pub invariant-loop-own : goal.invariant-loop-own
invariant-loop-own l = Asking l.fn.records l.fn.count l.own-index l.ok
