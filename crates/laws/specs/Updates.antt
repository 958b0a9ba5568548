-- A function changed at one place.
use Rattle.std.specs.Prelude.{ℕ, ◌≡◌, refl, cond, eqb}
use Rattle.std.proofs.Math.Decide.{ℕ_discrete}
use Rattle.std.proofs.Common.{sym, ap, ◌∙◌, eq-eqb, ne_eqb}

-- f' is f but at i, where it is v
pub record Upd {A : Type 0} (f f' : ℕ → A) (i : ℕ) (v : A) : Type 0 where
  pub here : f' i ≡ v
  pub else : (j : ℕ) → (j ≡ i → ⊥) → f' j ≡ f j

abbrev pub upd : {A : Type 0} → (ℕ → A) → ℕ → A → ℕ → A
upd f i v j = cond (eqb j i) v (f j)

pub is-upd : {A : Type 0} (f : ℕ → A) (i : ℕ) (v : A) → Upd f (upd f i v) i v
is-upd f i v = record { here = simp (eq-eqb i i refl); else = λ j h. simp (ne_eqb j i h) }

-- a change that changes nothing
pub same-upd : {A : Type 0} (f f' : ℕ → A) (i : ℕ) (x : A) → Upd f f' i x → f i ≡ x → (j : ℕ) → f' j ≡ f j
same-upd f f' i x u e j = elim (ℕ_discrete j i) [ yes p ↦ ap f' p ∙ u.here ∙ sym e ∙ ap f (sym p) | no p ↦ u.else j p ]
