-- `tree_mend::settle` meets its contract.
use Rattle.tree_mend.proofs.Paths.{Settling}
use Rattle.tree_mend.proofs.settle.Given as goal

abbrev pub invariant-loop-left : goal.invariant-loop-left
invariant-loop-left l = Settling l.order l.initial.left l.initial.down l.initial.to l.to l.left l.first l.down

abbrev pub decreases-loop-left : goal.decreases-loop-left
decreases-loop-left l = l.left
