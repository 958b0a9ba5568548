-- `packed_way::climb` meets its contract.
use Rattle.laws.specs.Prelude.{◌<◌, ◌≡◌, ◌≤◌, length, ℕ}
use Rattle.packed_way.proofs.Walked.{Climb}
use Rattle.packed_way.specs.Sink.{Ends}
use Rattle.packed_way.proofs.climb.Given as goal

abbrev pub invariant-loop-m : goal.invariant-loop-m
invariant-loop-m l = (l.m ≤ l.end) × (length l.s ≡ length l.initial.s) × ((left h : ℕ) → h < l.heaps → Ends l.heaps left l.initial.y h l.initial.s l.end → Climb l.heaps left l.initial.y h l.initial.s l.m l.y l.s)

abbrev pub decreases-loop-m : goal.decreases-loop-m
decreases-loop-m l = l.m
