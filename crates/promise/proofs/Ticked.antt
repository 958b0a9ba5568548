-- A clock has all of it.
use Rattle.laws.specs.Prelude.{Bool, Element, List, Request, ◌≡◌, ◌⊎◌, false, inl, inr, refl, ℕ}
use Rattle.promise.proofs.Clock.{barred, exactly-clear, exactly-cycle, exactly-held, Ticks}
use Rattle.promise.proofs.Drains.{exactly-drain}
use Rattle.promise.proofs.InFlight.{Bag, cycle-least, drained-few, drained-fine, drained-left, holds, IsClock, kept-numbers, kept-undamaged, Lowest, nothing-lost, ran-kept}
use Rattle.promise.proofs.Promised.{each_of}
use Rattle.promise.specs.Prelude.{Call, Clear, Clock, CycleAnswers, NothingLost, OneOf, Running, Untagged, calls, cycling, ran, rested}

module _ {C M : Type 0} (k : Clock C M) where
  pub cycle-answers : Ticks k (cycling k) → ((c : C) (x : M) → Untagged (k.wants c) → Clear (k.late c x) → ⊥) → CycleAnswers k
  cycle-answers t tags =
      record {
        exactly = λ c x. exactly-cycle t c x;
        exactly-drain = λ b x. exactly-drain t b x;
        exactly-clear = λ x. exactly-clear t x;
        exactly-held = λ x. exactly-held t x;
        barred = λ c x. barred t c x (tags c x);
      }

  module _ (Kept : M → Type 0) (is : IsClock k (cycling k) Kept) (seen : C → Request) (stored : M → (Element → Bool) → ℕ) (bag : Bag k Kept seen stored) (x : M) (kept : Kept x) (bare : (f : Element → Bool) → stored x f ≡ 0) where
    pub nothing-lost-so : (most : ℕ) (cs : List (Call C)) → NothingLost k seen stored most cs x
    nothing-lost-so most cs = nothing-lost is (calls k (cycling k)) (λ c x. refl) bag x kept bare cs

    pub running : Lowest k Kept seen stored → (most : ℕ) → ((x : M) → Kept x → k.pending (rested k (cycling k) most x) ≡ false) → (cs : List C) → Running k seen stored most cs x
    running lowest most settles cs =
        let at = ran-kept is x kept cs in
        record {
          holds = holds is x kept bag bare cs;
          least = λ c. cycle-least is lowest c (ran k cs x) at;
          undamaged = λ c. kept-undamaged is c (ran k cs x) at;
          shape = (is.ticks.shape (ran k cs x)).says (is.shaped (ran k cs x) at);
          numbers = λ c. kept-numbers is c (ran k cs x) at (λ n. (n ≡ 0) ⊎ OneOf (k.late c (ran k cs x)) n) (inl refl) (each_of (λ n. (n ≡ 0) ⊎ OneOf (k.late c (ran k cs x)) n) (k.late c (ran k cs x)) (λ n p. inr p));
          rests = settles (ran k cs x) at;
          drains = λ b enough. (
            drained-fine is most settles (ran k cs x) at b enough,
            drained-few is most settles (ran k cs x) at b enough,
            drained-left is most settles (ran k cs x) at b enough,
          );
        }
