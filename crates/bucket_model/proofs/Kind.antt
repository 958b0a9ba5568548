-- The kind of an answer, for all inputs: of a call that is not refused a push answers done, a pop and a replace answer an element. No call takes in an element without a tag.
use Rattle.laws.specs.Prelude.{Idle, Pop, Push, Replace, Request, ◌≡◌, number_of}
use Rattle.promise.proofs.Calls.{grants-kind}
use Rattle.promise.proofs.Tabled.{granted, keeps}
use Rattle.promise.specs.Prelude.{Barred, Kind}
use Rattle.bucket_model.specs.Layout.{Lay}
use Rattle.bucket_model.specs.Prelude.{Outcome, Store, asked}
use Rattle.bucket_model.proofs.Exactly.{goes}

-- KIND
pub kind : (k : Lay) (q : Request) (s : Store) → number_of (asked k q s).answer ≡ 0 → Kind q (asked k q s).answer
kind k q s = keeps (goes k s.bits s.words q) (λ (o : Outcome). Kind q o.answer) (grants-kind q _)

-- BARRED: an element without a tag is never let in
pub barred : (k : Lay) (q : Request) (s : Store) → Barred q (asked k q s).answer
barred k Idle s u e = u
barred k (Push x) s u e = (granted (goes k s.bits s.words (Push x)) e).1.1.0 u
barred k Pop s u e = u
barred k (Replace x) s u e = (granted (goes k s.bits s.words (Replace x)) e).1.1.0 u
