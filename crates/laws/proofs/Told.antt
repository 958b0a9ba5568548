-- What a proof over a slice of rows cites, whatever the rows are: numbers and truth values.
use Rattle.laws.specs.Prelude.{Bool, ◌+◌, ◌∙◌, ◌≡◌, add-suc, add-zero, ap, false, refl, suc, true, zero, ℕ}
use lib.Dec.{T as Holds}

pub one_more : (i : ℕ) → i + 1 ≡ suc i
one_more i = add-suc i zero ∙ ap suc (add-zero i)

pub holds : (t : Bool) → Holds t → t ≡ true
holds true _ = refl
holds false a = absurd a

pub fails : (t : Bool) → (Holds t → ⊥) → t ≡ false
fails true f = absurd (f tt)
fails false _ = refl
