use Rattle.laws.specs.Prelude.{◌≡◌, ◌≤◌}
use Rattle.cluster_node.specs.Full.{full_to, low_to, turns}
use Rattle.cluster_node.proofs.low_each.Given as goal

abbrev pub invariant-loop-j : goal.invariant-loop-j
invariant-loop-j l = (l.j ≤ l.n) × (l.full ≡ full_to l.s l.at l.j) × (l.place ≡ low_to l.s l.at l.j) × (l.best ≡ turns l.s l.at (low_to l.s l.at l.j))
