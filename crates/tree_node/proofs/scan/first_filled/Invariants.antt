-- `tree_node::scan::first_filled` meets its contract.
use Rattle.tree_node.proofs.Leads.{FilledTo}
use Rattle.tree_node.proofs.scan.first_filled.Given as goal

abbrev pub invariant-loop-j : goal.invariant-loop-j
invariant-loop-j l = FilledTo l.order l.s l.at l.j
