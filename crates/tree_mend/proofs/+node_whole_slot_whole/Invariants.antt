-- `tree_mend::node_whole` and `tree_mend::slot_whole` meet their contracts.
use Rattle.tree_mend.proofs.Descent.{AtPlace}
use Rattle.laws.specs.Prelude.{◌*◌, ◌+◌}
use Rattle.tree_mend.proofs.+node_whole_slot_whole.Given as goal

abbrev pub decreases-node_whole : goal.decreases-node_whole
decreases-node_whole l = 2 * l.left

abbrev pub decreases-slot_whole : goal.decreases-slot_whole
decreases-slot_whole l = 2 * l.left + 1

abbrev pub invariant-node_whole-loop-p : goal.invariant-node_whole-loop-p
invariant-node_whole-loop-p l = AtPlace l.order l.left l.node l.above.0 l.s l.p-end l.p
