-- `ports::pop` meets its contract.
use Rattle.laws.specs.Prelude.{◌≡◌, ◌≤◌}
use Rattle.bucket_model.specs.Prelude.{least_storeys}
use Rattle.ports.proofs.pop.Given as goal

abbrev pub invariant-loop-d : goal.invariant-loop-d
invariant-loop-d l = (l.bits ≡ l.fn.bits) × (l.words ≡ l.fn.words) × (least_storeys ≤ l.s.storeys → l.d ≤ l.s.storeys)
