-- `bucket::pop` meets its contract.
use Rattle.laws.specs.Prelude.{List, ◌+◌, ◌-◌, ◌≡◌, ◌≤◌, length, ℕ}
use Rattle.bucket_model.specs.Prelude.{Outcome, least_storeys, most_storeys, outcome, popped, queue}
use Rattle.bucket_step.proofs.Depths.{Gone}
use Rattle.bucket.proofs.pop.Given as goal

abbrev pub call : ℕ → ℕ → List ℕ → List ℕ → Outcome
call n d b w = popped (queue d n) b w

abbrev pub invariant-loop-d : goal.invariant-loop-d
invariant-loop-d l = (least_storeys ≤ l.d) × (l.d ≤ most_storeys + 1) × (length l.bits ≡ length l.initial.bits) × (length l.words ≡ length l.initial.words) × Gone (call l.n) l.storeys l.initial.bits l.initial.words l.d (outcome l.answer l.bits l.words)
