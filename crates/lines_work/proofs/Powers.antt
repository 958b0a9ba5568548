-- The powers of two from 1 to 512 are those that the code's test finds.
use Rattle.laws.specs.Prelude.{Bool, ◌&&◌, ◌<◌, ◌||◌, ◌∙◌, ◌≡◌, and_left, and_right, ap, arith, false, leb, leb-false, leb-true, not, refl, suc, true, zero, ℕ, ℕ_discrete}
use Rattle.std.specs.Int.{is_power_of_two}
use Rattle.lines_model.proofs.Which.{power-most}
use Rattle.lines_model.specs.Layout.{power_of_two}
use lib.Count.{ones}

-- the two tests say the same of n
abbrev agree : ℕ → Bool
agree n = (is_power_of_two n && power_of_two n) || (not (is_power_of_two n) && not (power_of_two n))

-- .. and of all below
abbrev agree_below : ℕ → Bool
agree_below zero = true
agree_below (suc n) = agree n && agree_below n

agree_at : (m n : ℕ) → agree_below m ≡ true → n < m → agree n ≡ true
agree_at zero n e h = absurd (omega arith)
agree_at (suc m) n e h = elim (ℕ_discrete n m) [
  | yes p ↦ ap agree p ∙ and_left (agree m) (agree_below m) e
  | no p ↦ agree_at m n (and_right (agree m) (agree_below m) e) (omega arith)
]

few : agree_below 513 ≡ true
unfolding ones power_of_two
few = refl

same_by : (a b : Bool) → ((a && b) || (not a && not b)) ≡ true → a ≡ b
same_by true true e = refl
same_by true false e = cc
same_by false true e = cc
same_by false false e = refl

pub powers : (n : ℕ) → (is_power_of_two n && leb n 512) ≡ power_of_two n
powers n = go (leb n 512) refl
  where
    both : (a t : Bool) → (a && true) ≡ a
    both true t = refl
    both false t = refl

    none : (a : Bool) → (a && false) ≡ false
    none true = refl
    none false = refl

    not_so : (b : Bool) → power_of_two n ≡ b → 512 < n → false ≡ b
    not_so true e h = absurd (omega (arith, power-most n e))
    not_so false e h = refl

    go : (t : Bool) → leb n 512 ≡ t → (is_power_of_two n && t) ≡ power_of_two n
    go true e = both (is_power_of_two n) true ∙ same_by (is_power_of_two n) (power_of_two n) (agree_at 513 n few (omega (arith, leb-true n 512 e)))
    go false e = none (is_power_of_two n) ∙ not_so (power_of_two n) refl (leb-false n 512 e)
