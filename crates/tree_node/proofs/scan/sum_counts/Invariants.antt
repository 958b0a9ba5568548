-- `tree_node::scan::sum_counts` meets its contract.
use Rattle.laws.specs.Prelude.{◌*◌, ◌≡◌, ◌≤◌}
use Rattle.tree_node.proofs.Scans.{sum_counts_to}
use Rattle.tree_model.specs.Prelude.{node_of}
use Rattle.tree_node.proofs.scan.sum_counts.Given as goal

abbrev pub invariant-loop-j : goal.invariant-loop-j
invariant-loop-j l = (l.sum ≤ 4294967296 * l.j) × (l.sum ≡ sum_counts_to (node_of l.order l.s l.at) l.j)
