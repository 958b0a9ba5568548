-- `packed_way::put_from` meets its contract.
use Rattle.laws.specs.Prelude.{◌+◌, ◌<◌, ◌≡◌, ◌≤◌, ℕ}
use Rattle.packed_model.specs.Words.{slot_at}
use Rattle.packed_way.proofs.Putted.{Climbs}
use Rattle.packed_way.proofs.put_from.Given as goal

abbrev pub invariant-loop-at : goal.invariant-loop-at
invariant-loop-at l = (l.k + l.at ≤ l.end) × (l.best ≤ l.k) × ((d r t : ℕ) → t < l.heaps → l.end ≡ slot_at l.heaps t d r → Climbs l.heaps d r t l.x l.s l.k l.at l.best)

abbrev pub decreases-loop-at : goal.decreases-loop-at
decreases-loop-at l = l.at
