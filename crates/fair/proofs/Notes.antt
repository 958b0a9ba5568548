-- What each return of the calls comes to, from what the callees ensure.
use Rattle.laws.specs.Prelude.{Answer, BadShape, Bool, Element, List, Pop, Push, Refusal, ◌*◌, ◌++◌, ◌+◌, ◌<◌, ◌∙◌, ◌≡◌, ◌≤◌, add-one, ap, arith, drop, element, eq-eqb, false, get_or, le-leb, length, lt-leb, max, ne_eqb, not, not-false, not-true, refl, replicate, set, subst, sym, true, ℕ, Result, Ok, Err, None, Some}
use native.Mathlib.Nat.{div-le_self, mul-le-mul}
use Rattle.tree_model.specs.Prelude.{called, held_count, outcome}
use Rattle.fair_model.proofs.Laws.{cells-most, finish-is, strip-means}
use Rattle.fair_model.specs.Calls.{desk, next_finish, noted, pops, pushes, reply, resets, strip_ok, timed, told}
use Rattle.fair_model.specs.Ranks.{cells, finish, Good, latest, step}
use Rattle.fair_model.specs.Answers.{FairAnswer}
use Rattle.std.specs.Prelude.{Ok, None, Err, Some}
use Rattle.fair_model.specs.declared.FairRefusal.TheVariants.{BadStrip, ClockSpent, NotEmpty, Queue}

-- ---- the finish
step-most : (w : ℕ) → step w ≤ 65536
unfolding step
step-most w = div-le_self 65536 w

pub cost-fits : (f w n a b : ℕ) → Good f w n → a ≡ cells n → b ≡ step w → a * b ≤ 144 * 65536
cost-fits f w n a b h p q = rw (p, q) (mul-le-mul (cells-most n h.short) (step-most w))

pub finish-told : (c l w n a b r : ℕ) → a ≡ cells n → b ≡ step w → r ≡ max c l + a * b → r ≡ finish c l w n
finish-told c l w n a b r p q e = e ∙ rw (p, q) (sym (finish-is c l w n))

-- ---- what is noted
pub note-done : (a : Answer) (f r : ℕ) (st : List ℕ) → a ≡ Ok None → ((Ok None) ≡ told a) × (set st (f + 1) r ≡ noted a f r st)
note-done a f r st e = rw (e, add-one f) (refl, refl)

pub note-out : (a : Answer) (f r : ℕ) (st : List ℕ) (x : Element) → a ≡ Ok (Some x) → (Ok (Some x) ≡ told a) × (st ≡ noted a f r st)
note-out a f r st x e = rw e (refl, refl)

pub note-refused : (a : Answer) (f r : ℕ) (st : List ℕ) (x : Refusal) → a ≡ Err x → (Err (Queue x) ≡ told a) × (st ≡ noted a f r st)
note-refused a f r st x e = rw e (refl, refl)

pub clock-out : (a : Answer) (st : List ℕ) (x : Element) → a ≡ Ok (Some x) → (Ok (Some x) ≡ told a) × (set st 0 x.rank.0 ≡ timed a st)
clock-out a st x e = rw e (refl, refl)

pub clock-refused : (a : Answer) (st : List ℕ) (x : Refusal) → a ≡ Err x → (Err (Queue x) ≡ told a) × (st ≡ timed a st)
clock-refused a st x e = rw e (refl, refl)

-- ---- push
module _ (b : Bool) (f w n : ℕ) (is : b ≡ strip_ok f w n) where
  pub passed : not b ≡ false → strip_ok f w n ≡ true
  passed h = sym is ∙ not-false b h

  pub good-strip : not b ≡ false → Good f w n
  good-strip h = (strip-means f w n).says (passed h)

  pub push-bad : (m levels t : ℕ) (st ws : List ℕ) → not b ≡ true → reply (Err BadStrip) (desk st ws) ≡ pushes m levels f w n t (desk st ws)
  unfolding pushes
  push-bad m levels t st ws h = rw (sym is ∙ not-true b h)

  pub push-short : (m levels t : ℕ) (st ws : List ℕ) → not b ≡ false → length st < 65 → reply (Err (Queue BadShape)) (desk st ws) ≡ pushes m levels f w n t (desk st ws)
  unfolding pushes
  push-short m levels t st ws h s = rw (passed h, lt-leb 65 (length st) s)

  pub push-spent : (m levels t : ℕ) (st ws : List ℕ) (r : ℕ) → not b ≡ false → 65 ≤ length st → r ≡ finish (get_or st 0 0) (get_or st (f + 1) 0) w n → 4294967295 < r
      → reply (Err ClockSpent) (desk st ws) ≡ pushes m levels f w n t (desk st ws)
  unfolding pushes
  push-spent m levels t st ws r h s e l =
      rw (passed h, le-leb 65 (length st) s, lt-leb (next_finish (desk st ws) f w n) latest (subst (λ (v : ℕ). 4294967295 < v) (e ∙ ap (λ (p : ℕ). finish (get_or st 0 0) (get_or st p 0) w n) (add-one f)) l))

  pub push-taken : (m levels t : ℕ) (st ws : List ℕ) (r : ℕ) (a : Answer) (ws' st' : List ℕ) (x : FairAnswer) → not b ≡ false → 65 ≤ length st
      → r ≡ finish (get_or st 0 0) (get_or st (f + 1) 0) w n → r ≤ 4294967295 → outcome a ws' ≡ called m levels (Push (element r t n)) ws
      → (x ≡ told a) × (st' ≡ noted a f r st) → reply x (desk st' ws') ≡ pushes m levels f w n t (desk st ws)
  unfolding pushes
  push-taken m levels t st ws r a ws' st' x h s e l o z =
      let q : r ≡ next_finish (desk st ws) f w n = e ∙ ap (λ (p : ℕ). finish (get_or st 0 0) (get_or st p 0) w n) (add-one f) in
      rw (passed h, le-leb 65 (length st) s, ← q, le-leb r latest l, ← o, z.0, z.1)

-- ---- pop
pub pop-short : (m levels : ℕ) (st ws : List ℕ) → length st < 65 → reply (Err (Queue BadShape)) (desk st ws) ≡ pops m levels (desk st ws)
unfolding pops
pop-short m levels st ws s = rw (lt-leb 65 (length st) s)

pub pop-gone : (m levels : ℕ) (st ws : List ℕ) (a : Answer) (ws' st' : List ℕ) (x : FairAnswer) → 65 ≤ length st → outcome a ws' ≡ called m levels Pop ws
    → (x ≡ told a) × (st' ≡ timed a st) → reply x (desk st' ws') ≡ pops m levels (desk st ws)
unfolding pops
pop-gone m levels st ws a ws' st' x s o z = rw (le-leb 65 (length st) s, ← o, z.0, z.1)

-- ---- reset
pub reset-short : (m levels : ℕ) (st ws : List ℕ) → length st < 65 → reply (Err (Queue BadShape)) (desk st ws) ≡ resets m levels (desk st ws)
unfolding resets
reset-short m levels st ws s = rw (lt-leb 65 (length st) s)

pub reset-refused : (m levels : ℕ) (st ws : List ℕ) (h : Result ℕ Refusal) (q : Refusal) → 65 ≤ length st → h ≡ held_count m levels ws → h ≡ Err q
    → reply (Err (Queue q)) (desk st ws) ≡ resets m levels (desk st ws)
unfolding resets
reset-refused m levels st ws h q s e p = rw (le-leb 65 (length st) s, ← e, p)

pub reset-held : (m levels : ℕ) (st ws : List ℕ) (h : Result ℕ Refusal) (n : ℕ) → 65 ≤ length st → h ≡ held_count m levels ws → h ≡ Ok n → 0 < n
    → reply (Err NotEmpty) (desk st ws) ≡ resets m levels (desk st ws)
unfolding resets
reset-held m levels st ws h n s e p l = rw (le-leb 65 (length st) s, ← e, p, ne_eqb n 0 (λ z. omega arith))

pub reset-done : (m levels : ℕ) (st ws : List ℕ) (h : Result ℕ Refusal) (n : ℕ) (st' : List ℕ) → 65 ≤ length st → h ≡ held_count m levels ws → h ≡ Ok n → n ≤ 0
    → st' ≡ replicate 65 0 ++ drop 65 st → reply (Ok None) (desk st' ws) ≡ resets m levels (desk st ws)
unfolding resets
reset-done m levels st ws h n st' s e p l z = rw (le-leb 65 (length st) s, ← e, p, eq-eqb n 0 (omega arith), z)
