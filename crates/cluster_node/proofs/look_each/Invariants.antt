use Rattle.laws.specs.Prelude.{◌≡◌, ◌≤◌}
use Rattle.cluster_node.specs.Seeing.{look_to}
use Rattle.cluster_node.proofs.look_each.Given as goal

abbrev pub invariant-loop-j : goal.invariant-loop-j
invariant-loop-j l = (l.j ≤ l.n) × (l.v ≡ look_to l.s l.at l.j)
