use Rattle.laws.specs.Prelude.{◌≡◌, ◌≤◌}
use Rattle.cluster_node.specs.Full.{full_to, high_to, ranks}
use Rattle.cluster_node.proofs.high_each.Given as goal

abbrev pub invariant-loop-j : goal.invariant-loop-j
invariant-loop-j l = (l.j ≤ l.n) × (l.full ≡ full_to l.s l.at l.j) × (l.place ≡ high_to l.s l.at l.j) × (l.best ≡ ranks l.s l.at (high_to l.s l.at l.j))
