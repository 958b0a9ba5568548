-- `packed_way::put_down` meets its contract.
use Rattle.laws.specs.Prelude.{◌*◌, ◌+◌, ◌<◌, ◌≡◌, ◌≤◌, length, ℕ}
use Rattle.packed_model.specs.Node.{size}
use Rattle.packed_model.specs.Words.{slot_at}
use Rattle.packed_way.proofs.Putted.{Falls}
use Rattle.packed_way.proofs.put_down.Given as goal

abbrev pub invariant-loop-k : goal.invariant-loop-k
invariant-loop-k l = (l.k ≤ l.levels) × (l.heaps * size l.k ≤ l.end + l.heaps) × (length l.s ≡ length l.initial.s) × ((r t : ℕ) → r < size l.levels → l.end ≡ slot_at l.heaps t l.levels r → Falls l.heaps l.end l.levels r t l.initial.y l.initial.s l.k l.y l.s)
