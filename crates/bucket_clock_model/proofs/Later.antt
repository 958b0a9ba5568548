-- In the law's words, cycle by cycle: what leaves in cycle t + S is the answer of one at a time to the request of cycle t, and nothing leaves in the first S.
use Rattle.laws.specs.Prelude.{Element, List, Request, [], ◌++◌, ◌+◌, ◌<◌, ◌∙◌, ◌∷◌, ◌≡◌, ap, arith, get_or, length, map, not-suc-le-zero, refl, replicate, suc, sym, zero, ℕ}
use Rattle.bucket_model.specs.declared.Lay.{Lay}
use Rattle.bucket_model.specs.Prelude.{Laid}
use Rattle.promise.specs.Prelude.{answers}
use Rattle.bucket_clock_model.specs.Clock.{out_of}
use Rattle.bucket_clock_model.specs.Damage.{DeskShaped}
use Rattle.std.specs.Prelude.{Option}
use Rattle.std.specs.Prelude.{None}
use Rattle.bucket_clock_model.specs.Desk.{clock_cleared, Desk, cycled, cycling}
use Rattle.bucket_clock_model.specs.Promise.{leaves_of, one_says}
use Rattle.bucket_clock_model.proofs.Promises.{answers-are}

at_left : (xs ys : List (Option Element)) (i : ℕ) → i < length xs → get_or (xs ++ ys) i None ≡ get_or xs i None
at_left [] ys i h = absurd (not-suc-le-zero h)
at_left (x ∷ xs) ys zero h = refl
at_left (x ∷ xs) ys (suc i) h = at_left xs ys i (omega arith)

at_right : (n : ℕ) (ys : List (Option Element)) (t : ℕ) → get_or (replicate n None ++ ys) (n + t) None ≡ get_or ys t None
at_right zero ys t = let e : 0 + t ≡ t = omega arith in ap (λ (i : ℕ). get_or ys i None) e
at_right (suc n) ys t = let e : suc n + t ≡ suc (n + t) = omega arith in ap (λ (i : ℕ). get_or (None ∷ (replicate n None ++ ys)) i None) e ∙ at_right n ys t

at_none : (n : ℕ) (ys : List (Option Element)) (t : ℕ) → t < n → get_or (replicate n None ++ ys) t None ≡ None
at_none zero ys t h = absurd (not-suc-le-zero h)
at_none (suc n) ys zero h = refl
at_none (suc n) ys (suc t) h = at_none n ys t (omega arith)

heard-long : (k : Lay) (qs : List Request) (m : Desk) → length (map (λ h. h.leaves) (answers (cycling k) qs m)) ≡ length qs
unfolding answers
heard-long k [] m = refl
heard-long k (q ∷ qs) m = ap suc (heard-long k qs (cycled k q m).desk)

module _ (k : Lay) (laid : Laid k) (m : Desk) (h : DeskShaped k m) (qs : List Request) where
  -- "what leaves in cycle t + S is its answer to the request of cycle t"
  pub leaves_later : (t : ℕ) → k.storeys + t < length qs → get_or (leaves_of k m qs) (k.storeys + t) None ≡ get_or (map out_of (one_says k m qs)) t None
  leaves_later t l =
      let a = answers-are k laid m h qs in
      sym (at_left (leaves_of k m qs) a.later (k.storeys + t) (omega (arith, heard-long k qs (clock_cleared k m).desk)))
      ∙ ap (λ (ys : List (Option Element)). get_or ys (k.storeys + t) None) a.leaves ∙ at_right k.storeys (map out_of (one_says k m qs)) t

  -- ".. and nothing else leaves"
  pub leaves_none : (t : ℕ) → t < k.storeys → t < length qs → get_or (leaves_of k m qs) t None ≡ None
  leaves_none t l n =
      let a = answers-are k laid m h qs in
      sym (at_left (leaves_of k m qs) a.later t (omega (arith, heard-long k qs (clock_cleared k m).desk)))
      ∙ ap (λ (ys : List (Option Element)). get_or ys t None) a.leaves ∙ at_none k.storeys (map out_of (one_says k m qs)) t l
