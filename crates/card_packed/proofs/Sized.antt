-- The packed heap's size.
use Rattle.laws.specs.Prelude.{Bool, ◌*◌, ◌+◌, ◌-◌, ◌∙◌, ◌≡◌, ◌≤◌, ap, arith, false, refl, sym, true, ℕ}
use Rattle.card_packed.specs.Packed.{packed_words}
use Rattle.packed.proofs.Shapes.{shape-few, shape_is}
use Rattle.packed_model.specs.Calls.{shape_ok}
use Rattle.packed_model.specs.Causes.{Shape}
use Rattle.packed_model.specs.Node.{size}
use Rattle.packed_model.specs.Words.{capacity, extent}

module _ (H levels : ℕ) (s : Bool) (p : s ≡ shape_ok H levels 393469) where
  pub words-none : s ≡ false → 0 ≡ packed_words H levels
  unfolding packed_words
  words-none z = rw (sym p ∙ z) refl

  pub words-few : s ≡ true → levels ≤ 17
  words-few z = shape-few H levels 393469 (shape_is H levels 393469 (sym p ∙ z))

  pub words-fit : s ≡ true → (q : ℕ) → q ≡ size levels → (H * (q - 1) ≤ 131071) × (H ≤ 256)
  unfolding capacity
  words-fit z q e =
      let g : Shape H levels 393469 = shape_is H levels 393469 (sym p ∙ z) in
      let w : H * (q - 1) ≡ H * (size levels - 1) = ap (λ (i : ℕ). H * (i - 1)) e in
      (omega (arith, w, g.slots), g.most)

  pub words-some : s ≡ true → (q : ℕ) → q ≡ size levels → H + H * (q - 1) * 3 ≡ packed_words H levels
  unfolding packed_words extent capacity
  words-some z q e = rw (sym p ∙ z) (ap (λ (i : ℕ). H + H * (i - 1) * 3) e)
