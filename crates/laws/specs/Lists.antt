-- Sums over a list, and what holds of all its elements, after a store at one place.
use Prim.Native.Nat.{ℕ, zero, suc, ◌+◌, ◌*◌, ◌≤◌, ◌<◌}
use Rattle.std.proofs.Common.{not-suc-le-zero, le_of_suc-le-suc}
use native.Mathlib.Omega.{arith}
use Rattle.std.specs.Prelude.{◌≡◌, length, get_or, set, replicate}
use Rattle.std.proofs.Math.Path.{refl}
use mathlib.Core.List.{List, [], ◌∷◌, map}

-- the sum of a number of each element
unfoldable pub sum_of : {A : Type 0} → (A → ℕ) → List A → ℕ
sum_of g [] = 0
sum_of g (z ∷ zs) = g z + sum_of g zs

-- P holds of every element
abbrev pub All : {A : Type 0} → (A → Type 0) → List A → Type 0
All P [] = Unit {0}
All P (z ∷ zs) = P z × All P zs

module _ {A : Type 0} where
  pub sum-set : (g : A → ℕ) (l : List A) (i : ℕ) (z d : A) → i < length l → sum_of g (set l i z) + g (get_or l i d) ≡ sum_of g l + g z
  unfolding sum_of
  sum-set g [] i z d h = absurd (not-suc-le-zero h)
  sum-set g (a ∷ l) zero z d h = omega arith
  sum-set g (a ∷ l) (suc i) z d h = omega (arith, sum-set g l i z d (le_of_suc-le-suc h))

  pub sum-zero : (g : A → ℕ) (l : List A) → All (λ a. g a ≡ 0) l → sum_of g l ≡ 0
  unfolding sum_of
  sum-zero g [] h = refl
  sum-zero g (a ∷ l) h = omega (arith, h.0, sum-zero g l h.1)

  pub sum-le : (g f : A → ℕ) (l : List A) → All (λ a. g a ≤ f a) l → sum_of g l ≤ sum_of f l
  unfolding sum_of
  sum-le g f [] h = omega arith
  sum-le g f (a ∷ l) h = omega (arith, h.0, sum-le g f l h.1)

  pub sum-upper : (g : A → ℕ) (c : ℕ) (l : List A) → All (λ a. g a ≤ c) l → sum_of g l ≤ length l * c
  unfolding sum_of
  sum-upper g c [] h = omega arith
  sum-upper g c (a ∷ l) h = omega (arith, h.0, sum-upper g c l h.1)

  pub all-at : (P : A → Type 0) (l : List A) (i : ℕ) (d : A) → All P l → i < length l → P (get_or l i d)
  all-at P [] i d h lt = absurd (not-suc-le-zero lt)
  all-at P (a ∷ l) zero d h lt = h.0
  all-at P (a ∷ l) (suc i) d h lt = all-at P l i d h.1 (le_of_suc-le-suc lt)

  pub all_set : (P : A → Type 0) (l : List A) (i : ℕ) (z : A) → All P l → P z → All P (set l i z)
  all_set P [] i z h p = tt
  all_set P (a ∷ l) zero z h p = (p, h.1)
  all_set P (a ∷ l) (suc i) z h p = (h.0, all_set P l i z h.1 p)

  pub all_map : (P Q : A → Type 0) → ((a : A) → P a → Q a) → (l : List A) → All P l → All Q l
  all_map P Q f [] h = tt
  all_map P Q f (a ∷ l) h = (f a h.0, all_map P Q f l h.1)

  pub all_both : (P Q : A → Type 0) (l : List A) → All P l → All Q l → All (λ a. P a × Q a) l
  all_both P Q [] h k = tt
  all_both P Q (a ∷ l) h k = ((h.0, k.0), all_both P Q l h.1 k.1)

  pub all_of_map : {B : Type 0} (f : A → B) (P : B → Type 0) (l : List A) → All P (map f l) → All (λ a. P (f a)) l
  all_of_map f P [] h = tt
  all_of_map f P (a ∷ l) h = (h.0, all_of_map f P l h.1)

  pub all-to-map : {B : Type 0} (f : A → B) (P : B → Type 0) (l : List A) → All (λ a. P (f a)) l → All P (map f l)
  all-to-map f P [] h = tt
  all-to-map f P (a ∷ l) h = (h.0, all-to-map f P l h.1)

  pub all_any : (P : A → Type 0) → ((a : A) → P a) → (l : List A) → All P l
  all_any P f [] = tt
  all_any P f (a ∷ l) = (f a, all_any P f l)

  pub all-set' : (P : A → Type 0) (l : List A) (i : ℕ) (z : A) → All P l → (i < length l → P z) → All P (set l i z)
  all-set' P [] i z h p = tt
  all-set' P (a ∷ l) zero z h p = (p (omega arith), h.1)
  all-set' P (a ∷ l) (suc i) z h p = (h.0, all-set' P l i z h.1 (λ lt. p (omega arith)))

  pub all_replicate : (P : A → Type 0) (n : ℕ) (a : A) → P a → All P (replicate n a)
  all_replicate P zero a p = tt
  all_replicate P (suc n) a p = (p, all_replicate P n a p)
