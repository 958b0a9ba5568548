-- What a call answers that is not refused, and that no element without a tag comes in: for all inputs.
use Rattle.laws.specs.Prelude.{Idle, Pop, Push, Replace, Request, ◌≡◌, number_of, ℕ}
use Rattle.promise.proofs.Calls.{grants-kind}
use Rattle.promise.proofs.Tabled.{granted, keeps}
use Rattle.promise.specs.Prelude.{Barred, Kind}
use Rattle.bucket_model.specs.Prelude.{Outcome, Store}
use Rattle.ports_model.specs.Prelude.{Shape, asked}
use Rattle.ports_model.proofs.Exactly.{goes}

-- KIND
pub kind : (s : Shape) (p : ℕ) (q : Request) (x : Store) → number_of (asked s p q x).answer ≡ 0 → Kind q (asked s p q x).answer
kind s p q x = keeps (goes s p x.bits x.words q) (λ (o : Outcome). Kind q o.answer) (grants-kind q _)

-- BARRED
pub barred : (s : Shape) (p : ℕ) (q : Request) (x : Store) → Barred q (asked s p q x).answer
barred s p Idle x u e = u
barred s p (Push y) x u e = (granted (goes s p x.bits x.words (Push y)) e).1.1.1.0 u
barred s p Pop x u e = u
barred s p (Replace y) x u e = (granted (goes s p x.bits x.words (Replace y)) e).1.1.1.0 u
