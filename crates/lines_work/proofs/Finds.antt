-- The shape, and the loops that clear and that find a line.
use Rattle.laws.specs.Prelude.{Bool, List, [], ◌&&◌, ◌*◌, ◌+◌, ◌<◌, ◌||◌, ◌∙◌, ◌∷◌, ◌≡◌, ◌≤◌, add-one, and_left, and_right, ap, arith, cond, eqb, false, leb, leb-true, length, not, not-false, not-true, refl, suc, sym, true, zero, ℕ, ℕ_discrete}
use Rattle.std.specs.Prelude.{◌++◌, drop, replicate}
use native.Mathlib.Nat.{mul-le-mul}
use Rattle.lines_model.proofs.Which.{power-most}
use Rattle.lines_model.specs.Calls.{wipe}
use Rattle.lines_model.specs.Layout.{power_of_two, shape_ok, store_words}
use Rattle.lines_model.specs.Rules.{seek}
use Rattle.lines_model.specs.declared.Rows.{Rows}

-- ---- the first that passes

pub seek-none : (t : ℕ → Bool) → seek t 0 ≡ 0
unfolding seek
seek-none t = refl

-- none so far
pub seek-past : (t : ℕ → Bool) (i : ℕ) → seek t i ≡ i → t i ≡ false → seek t (i + 1) ≡ i + 1
unfolding seek
seek-past t i e f = rw add-one (ap (λ (j : ℕ). cond (t j) j (suc j)) e ∙ ap (λ (b : Bool). cond b i (suc i)) f)

-- found
pub seek_found : (t : ℕ → Bool) (i n : ℕ) → seek t i ≡ i → t i ≡ true → i < n → i ≡ seek t n
unfolding seek
seek_found t i zero e f h = absurd (omega arith)
seek_found t i (suc n) e f h = elim (ℕ_discrete i n) [
  | yes p ↦ sym (ap (λ (m : ℕ). cond (t (seek t m)) (seek t m) (suc (seek t m))) (sym p) ∙ ap (λ (j : ℕ). cond (t j) j (suc j)) e ∙ ap (λ (b : Bool). cond b i (suc i)) f)
  | no p ↦ sym (ap (λ (j : ℕ). cond (t j) j (suc j)) (sym (seek_found t i n e f (omega arith))) ∙ ap (λ (b : Bool). cond b i (suc i)) f)
]

-- ---- the shape

pub record Small (k : Rows) : Type 0 where
  pub power : power_of_two k.lines ≡ true
  pub lines : k.lines ≤ 512
  pub low : 1 ≤ k.places
  pub high : k.places ≤ 1024
  pub area : k.lines * k.places ≤ 524288

module _ (k : Rows) where
  abbrev kinds : Bool
  kinds = eqb k.kind 1 || eqb k.kind 2

  abbrev few : Bool → Bool
  few p = kinds && p && leb 1 k.places && leb k.places 1024

  small_of : few (power_of_two k.lines) ≡ true → Small k
  small_of e =
      let p = power_of_two k.lines in
      let a = and_left (kinds && p && leb 1 k.places) (leb k.places 1024) e in
      let b = and_left (kinds && p) (leb 1 k.places) a in
      let h = leb-true k.places 1024 (and_right (kinds && p && leb 1 k.places) (leb k.places 1024) e) in
      let l = power-most k.lines (and_right kinds p b) in
      record {
        power = and_right kinds p b;
        lines = l;
        low = leb-true 1 k.places (and_right (kinds && p) (leb 1 k.places) a);
        high = h;
        area = mul-le-mul l h;
      }

  pub shape-no : (long : ℕ) (p : Bool) → p ≡ power_of_two k.lines → not (few p) ≡ true → false ≡ shape_ok k long
  unfolding shape_ok
  shape-no long p e n = let z : few (power_of_two k.lines) ≡ false = ap few (sym e) ∙ not-true (few p) n in rw z refl

  pub shape-small : (p : Bool) → p ≡ power_of_two k.lines → not (few p) ≡ false → Small k
  shape-small p e n = small_of (ap few (sym e) ∙ not-false (few p) n)

  pub shape-yes : (long : ℕ) (p : Bool) → p ≡ power_of_two k.lines → not (few p) ≡ false → leb (store_words k) long ≡ shape_ok k long
  unfolding shape_ok
  shape-yes long p e n = let z : few (power_of_two k.lines) ≡ true = ap few (sym e) ∙ not-false (few p) n in rw z refl

  pub small : (long : ℕ) → shape_ok k long ≡ true → Small k
  unfolding shape_ok
  small long e = small_of (and_left (few (power_of_two k.lines)) (leb (store_words k) long) e)

  pub room : (long : ℕ) → shape_ok k long ≡ true → store_words k ≤ long
  unfolding shape_ok
  room long e = leb-true (store_words k) long (and_right (few (power_of_two k.lines)) (leb (store_words k) long) e)

pub told-no : (b : Bool) (t : Bool) → b ≡ t → not b ≡ true → t ≡ false
told-no b t e n = sym e ∙ not-true b n

pub told-yes : (b : Bool) (t : Bool) → b ≡ t → not b ≡ false → t ≡ true
told-yes b t e n = sym e ∙ not-false b n

-- ---- clear

pub wipe_is : (n : ℕ) (w : List ℕ) → n ≤ length w → replicate n 0 ++ drop n w ≡ wipe n w
unfolding wipe
wipe_is zero w h = refl
wipe_is (suc n) [] h = absurd (omega arith)
wipe_is (suc n) (x ∷ w) h = ap (λ (l : List ℕ). 0 ∷ l) (wipe_is n w (omega arith))
