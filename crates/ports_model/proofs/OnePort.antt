-- One port that may fill the pool is the bucket queue: it answers every list of calls as the bucket queue of as many nodes does.
use Rattle.laws.specs.Prelude.{Bool, List, [], ◌∙◌, ◌∷◌, ◌≡◌, ◌≤◌, ap, ap₂, arith, dec_lt, inl, inr, is-upd, le-ltb, length, lt-ltb, ltb, map, max, means-off, refl, sum_to, sym, ℕ, ⊎_elim}
use Rattle.promise.specs.Prelude.{Step, answers}
use Rattle.bucket_model.specs.Prelude.{Call, Said, plain_says, plain_with, queue, says}
use Rattle.bucket_model.specs.Causes as bucket
use Rattle.bucket_model.specs.Plain as plain
use Rattle.bucket_model.proofs.Promises as queues
use Rattle.bucket_model.proofs.Laws.{queue-laid}
use Rattle.ports_model.specs.Prelude.{Fair, Lists, Shape, Shaped, accepts, at, back, called, ceiling_of, claimed, floor_of, none, ranks_of, served, start}
use Rattle.ports_model.proofs.Promises.{ports-answer}
use Rattle.ports_model.proofs.Room.{Sound, none-sound, step-sound, served-in, accepts-means}

-- d storeys, n nodes, one port
abbrev pub one_port : ℕ → ℕ → Shape
one_port d n = record { storeys = d; nodes = n; ports = 1 }

module _ (d n : ℕ) (lim : List ℕ) (fair : Fair (one_port d n) lim) (open' : n ≤ ceiling_of lim 0) where
  abbrev s : Shape
  s = one_port d n

  claimed-one : (st : Lists) → claimed s lim st ≡ max (length (st 0)) (floor_of lim 0)
  unfolding sum_to
  claimed-one st = omega arith

  floor-fits : floor_of lim 0 ≤ n
  floor-fits = let f = fair.fits in unfold sum_to in omega (arith, f)

  -- 02's rule comes to 01's
  accepts-one : (st : Lists) → Sound s lim st → accepts s lim st 0 ≡ ltb (length (st 0)) n
  accepts-one st z = elim (dec_lt (length (st 0)) n) [
    | yes l ↦ (accepts-means s lim st 0).holds (elim (dec_lt (length (st 0)) (floor_of lim 0)) [ yes f ↦ inl f | no f ↦ inr (omega arith, omega (arith, claimed-one st)) ]) ∙ sym (lt-ltb (length (st 0)) n l)
    | no l ↦ means-off (accepts-means s lim st 0) (λ a. ⊎_elim (λ f. omega (arith, floor-fits)) (λ f. omega (arith, f.1, claimed-one st)) a) ∙ sym (le-ltb (length (st 0)) n (omega arith))
  ]

  -- call by call
  lists-one : (cs : List Call) (st : Lists) → Sound s lim st → answers (served s lim) (map (at 0) cs) st ≡ plain_says (queue d n) cs (st 0)
  unfolding answers plain_says
  lists-one [] st z = refl
  lists-one (c ∷ cs) st z =
      let P = plain_with (ranks_of s) (ltb (length (st 0)) n) c (st 0) in
      let e : served s lim (at 0 c) st ≡ back st 0 (plain_with (ranks_of s) (ltb (length (st 0)) n) c (st 0)) =
      served-in s lim (at 0 c) st (omega arith) ∙ ap (λ (a : Bool). back st 0 (plain_with (ranks_of s) a c (st 0))) (accepts-one st z) in
      ap₂ (λ (a : Said) (l : List Said). a ∷ l) (ap (λ (y : Step Said Lists). y.said) e)
      (lists-one cs (served s lim (at 0 c) st).next (step-sound s lim fair (at 0 c) st z) ∙ ap (plain_says (queue d n) cs) (ap (λ (y : Step Said Lists). y.next 0) e ∙ (is-upd st 0 P.next).here))

  -- ONE PORT: of any floor, with a ceiling of N or more
  pub one-port : (b w b' w' : List ℕ) → Shaped (one_port d n) b w → bucket.Shaped (queue d n) b' w' → (cs : List Call) → answers (called (one_port d n)) (map (at 0) cs) (start (one_port d n) lim b w) ≡ says (queue d n) cs (plain.start (queue d n) b' w')
  one-port b w b' w' h g cs =
      ports-answer s lim b w h fair (map (at 0) cs) ∙ lists-one cs none (none-sound s lim fair) ∙ sym (queues.answers (queue d n) (queue-laid d n b' w' g) b' w' g cs)
