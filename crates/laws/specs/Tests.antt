-- Tests: what a computed yes or no says.
use Rattle.std.specs.Prelude.{◌-◌, pred, suc, zero, ℕ, ◌&&◌, ◌||◌, Bool, cond, false, not, true, ◌≡◌, refl}
use Rattle.std.proofs.Common.{arith}
use Rattle.std.proofs.lemmas.Bool.{false≢true}

pub and_left : (a b : Bool) → (a && b) ≡ true → a ≡ true
and_left true b e = refl
and_left false b e = e

pub and_right : (a b : Bool) → (a && b) ≡ true → b ≡ true
and_right true b e = e
and_right false b e = absurd (false≢true e)

pub and-true : (a b : Bool) → a ≡ true → b ≡ true → (a && b) ≡ true
and-true true b p q = q
and-true false b p q = p

pub or_right : (a b : Bool) → b ≡ true → (a || b) ≡ true
or_right true b e = refl
or_right false b e = e

-- a test that cannot be true is false
pub not_so : (b : Bool) → (b ≡ true → ⊥) → not b ≡ true
not_so true h = absurd (h refl)
not_so false h = refl

-- what holds of both branches holds of the branch taken
pub cond-path : {A B : Type 0} (f : A → B) (t : Bool) (x y : A) (z : B) → f x ≡ z → f y ≡ z → f (cond t x y) ≡ z
cond-path f true x y z p q = p
cond-path f false x y z p q = q

-- .. each branch by what its test says
pub cond_both : {A : Type 0} (P : A → Type 0) (t : Bool) (x y : A) → (t ≡ true → P x) → (t ≡ false → P y) → P (cond t x y)
cond_both P true x y f g = f refl
cond_both P false x y f g = g refl

pub and-unit : (b : Bool) → (b && true) ≡ b
and-unit true = refl
and-unit false = refl

pub and_assoc : (a b c : Bool) → ((a && b) && c) ≡ (a && (b && c))
and_assoc true b c = refl
and_assoc false b c = refl

-- the code's n - 1 is the number before n
pub sub-one : (n : ℕ) → n - 1 ≡ pred n
sub-one zero = refl
sub-one (suc n) = omega arith
