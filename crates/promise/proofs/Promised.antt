-- A queue that shows `Tested` and `IsQueue` keeps all promises.
use Rattle.laws.specs.Prelude.{List, Request, ◌≡◌, ◌⊎◌, inl, inr, refl, refusal_number, ℕ}
use Rattle.promise.proofs.Calls as calls
use Rattle.promise.proofs.Calls.{Tested}
use Rattle.promise.proofs.Kept as kept
use Rattle.promise.proofs.Kept.{IsQueue, Swaps}
use Rattle.promise.specs.Prelude.{Answers, Clear, Each, OneOf, Promised, Queue, Replaces, Table, after, bars, ends, needs, stops}

-- every refusal of a table is one of it
pub each_of : (P : ℕ → Type 0) (a : Table) → ((n : ℕ) → OneOf a n → P n) → Each (λ x. P (refusal_number x)) a
each_of P ends f = tt
each_of P (needs x t Q l) f = (f (refusal_number x) (inl refl), each_of P l (λ n o. f n (inr o)))
each_of P (stops x t D l) f = (f (refusal_number x) (inl refl), each_of P l (λ n o. f n (inr o)))
each_of P (bars x t D l) f = (f (refusal_number x) (inl refl), each_of P l (λ n o. f n (inr o)))

module _ {S : Type 0} (q : Queue S) where
  pub answers-so : Tested q → Answers q
  answers-so t =
      record {
        exactly = calls.exactly t;
        exactly-clear = calls.exactly-clear t;
        exactly-held = calls.exactly-held t;
        kind = calls.kind q;
        barred = calls.barred t;
      }

  module _ (Kept : S → Type 0) (is : IsQueue q Kept) (rs : List Request) (s : S) (fits : Clear (q.clearing s)) where
    -- 0, or the number of a rung
    abbrev Said : Request → ℕ → Type 0
    Said r n = (n ≡ 0) ⊎ OneOf (q.asked r (after q rs s)) n ⊎ OneOf (q.late r (after q rs s)) n

    pub promised-so : Promised q rs s
    promised-so =
        record {
          holds = kept.holds is s fits rs;
          triples = kept.triples is s fits rs;
          tagged = kept.tagged is s fits rs;
          least = kept.least is s fits rs;
          shape-kept = kept.shape-kept is s fits rs;
          undamaged = kept.undamaged is s fits rs;
          numbers = λ r.
              kept.kept-numbers is r (after q rs s) (kept.after_kept is s fits rs) (Said r) (inl refl) (each_of (Said r) (q.asked r (after q rs s)) (λ n o. inr (inl o)))
              (each_of (Said r) (q.late r (after q rs s)) (λ n o. inr (inr o)));
          held-says = kept.held-says is s fits rs;
        }

    pub replaces-so : Swaps is → Replaces q rs s
    replaces-so sw x tag first = kept.pop-then-push is s fits rs sw x tag first
