-- `tree_node::scan::look_least` meets its contract.
use Rattle.laws.specs.Prelude.{◌≡◌}
use Rattle.tree_model.specs.Prelude.{node_of, slot_ok}
use Rattle.tree_node.proofs.Scans.{every_to, fewest, scan_least}
use Rattle.tree_node.proofs.scan.look_least.Given as goal

abbrev pub invariant-loop-j : goal.invariant-loop-j
invariant-loop-j l = (l.ok ≡ every_to (slot_ok l.room) (node_of l.order l.s l.at) l.j) × (l.best ≡ scan_least (node_of l.order l.s l.at) l.j) × (l.few ≡ fewest (node_of l.order l.s l.at) l.j)
