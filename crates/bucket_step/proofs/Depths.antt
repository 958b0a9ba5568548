-- A call that goes through the depths that there are, and is done at the one that is asked for.
use Rattle.laws.specs.Prelude.{Answer, BadShape, Bool, List, ◌&&◌, ◌+◌, ◌<◌, ◌∙◌, ◌≡◌, ◌≤◌, ap, arith, cond, dec_lt, false, le-leb, le-ltb, leb, lt-leb, lt-ltb, ltb, ltb-false, ltb-true, means-and, means-leb, refl, sym, true, ℕ}
use Rattle.bucket_model.specs.declared.Lay.{Lay}
use Rattle.bucket_model.specs.Prelude.{Outcome, depth_ok, is_shaped, least_storeys, most_storeys, outcome, queue, refused, shape_ok}

-- ---- a depth that there is, and any other

pub deep_of : (d : ℕ) → depth_ok d ≡ true → (least_storeys ≤ d) × (d ≤ most_storeys)
deep_of d e = (means-and (means-leb least_storeys d) (means-leb d most_storeys)).says e

pub undeep : (d n : ℕ) (b w : List ℕ) → depth_ok d ≡ false → is_shaped (queue d n) b w ≡ false
unfolding shape_ok
undeep d n b w e = simp e

-- all depths gone through: no other is one
pub all-gone : (s d : ℕ) → most_storeys + 1 ≤ d → (least_storeys ≤ s → d ≤ s) → depth_ok s ≡ false
all-gone s d l h = elim (dec_lt s least_storeys) [ yes e ↦ simp (lt-leb least_storeys s e) | no n ↦ (let far : least_storeys ≤ s = omega arith in let past : most_storeys < s = omega (arith, h far) in simp (le-leb least_storeys s far, lt-leb s most_storeys past)) ]

-- the same call of the same layout
pub at-lay : (f : Lay → List ℕ → List ℕ → Outcome) (k l : Lay) (b w : List ℕ) (o : Outcome) → k ≡ l → o ≡ f k b w → o ≡ f l b w
at-lay f k l b w o e h = h ∙ ap (λ (k : Lay). f k b w) e

-- ---- depth after depth

-- what there is once the depths below d have been gone through: o if s was one of them
abbrev passed : ℕ → ℕ → Outcome → Outcome → Outcome
passed s d o r = cond (leb least_storeys s && ltb s d) o r

module _ (s d : ℕ) (o r : Outcome) where
  was : least_storeys ≤ s → s < d → passed s d o r ≡ o
  was l h = simp (le-leb least_storeys s l, lt-ltb s d h)

  not_yet : d ≤ s → passed s d o r ≡ r
  not_yet h = rw (le-ltb s d h) (go (leb least_storeys s))
    where
      go : (t : Bool) → cond (t && false) o r ≡ r
      go true = refl
      go false = refl

  never : s < least_storeys → passed s d o r ≡ r
  never h = simp (lt-leb least_storeys s h)

-- a depth that is not asked for changes nothing
passed_on : (s d : ℕ) (o r : Outcome) → (d ≡ s → ⊥) → passed s d o r ≡ passed s (d + 1) o r
passed_on s d o r n = go (ltb s d) refl
  where
    go : (t : Bool) → ltb s d ≡ t → passed s d o r ≡ passed s (d + 1) o r
    go true e = ap (λ (t : Bool). cond (leb least_storeys s && t) o r) (e ∙ sym (lt-ltb s (d + 1) (omega (arith, ltb-true s d e))))
    go false e = ap (λ (t : Bool). cond (leb least_storeys s && t) o r) (e ∙ sym (le-ltb s (d + 1) (omega (arith, ltb-false s d e))))

-- the call f of s storeys, on these words
module _ (f : ℕ → List ℕ → List ℕ → Outcome) (s : ℕ) (b w : List ℕ) where
  abbrev pub Gone : ℕ → Outcome → Type 0
  Gone d o = o ≡ passed s d (f s b w) (refused BadShape b w)

  pub none-gone : Gone least_storeys (refused BadShape b w)
  none-gone = go (ltb s least_storeys) refl
    where
      go : (t : Bool) → ltb s least_storeys ≡ t → Gone least_storeys (refused BadShape b w)
      go true e = sym (never s least_storeys _ _ (ltb-true s least_storeys e))
      go false e = sym (not_yet s least_storeys _ _ (ltb-false s least_storeys e))

  -- the depth asked for: until now nothing was written, and now the call is done
  pub gone-here : (d : ℕ) (a a₁ a₂ : Answer) (b₀ w₀ b₁ w₁ b₂ w₂ : List ℕ) → least_storeys ≤ d → d ≡ s → Gone d (outcome a b₀ w₀) → outcome a₁ b₁ w₁ ≡ f d b₀ w₀
      → b₂ ≡ b₁ → w₂ ≡ w₁ → a₂ ≡ a₁ → Gone (d + 1) (outcome a₂ b₂ w₂)
  gone-here d a a₁ a₂ b₀ w₀ b₁ w₁ b₂ w₂ l e g h x y z =
      let still : outcome a b₀ w₀ ≡ refused BadShape b w = g ∙ not_yet s d _ _ (omega arith) in
      (λ i. outcome (z i) (x i) (y i))
      ∙ h
      ∙ (λ i. f (e i) (still i).bits (still i).words)
      ∙ sym (was s (d + 1) _ _ (omega arith) (omega arith))

  pub gone-on : (d : ℕ) (a a₁ : Answer) (b₀ w₀ b₁ w₁ : List ℕ) → (d ≡ s → ⊥) → Gone d (outcome a b₀ w₀) → b₁ ≡ b₀ → w₁ ≡ w₀ → a₁ ≡ a → Gone (d + 1) (outcome a₁ b₁ w₁)
  gone-on d a a₁ b₀ w₀ b₁ w₁ m g x y z = (λ i. outcome (z i) (x i) (y i)) ∙ g ∙ passed_on s d _ _ m

  -- all depths gone through: no other is shaped
  pub gone-all : (d : ℕ) (o : Outcome) → d ≡ most_storeys + 1 → (depth_ok s ≡ false → refused BadShape b w ≡ f s b w) → Gone d o → o ≡ f s b w
  gone-all d o e bad g = g ∙ ap (λ (d : ℕ). passed s d (f s b w) (refused BadShape b w)) e ∙ go (leb least_storeys s) refl (ltb s (most_storeys + 1)) refl
    where
      go : (t : Bool) → leb least_storeys s ≡ t → (u : Bool) → ltb s (most_storeys + 1) ≡ u → cond (t && u) (f s b w) (refused BadShape b w) ≡ f s b w
      go true p true q = refl
      go true p false q = bad (rw (p, lt-leb s most_storeys (omega (arith, ltb-false s (most_storeys + 1) q))))
      go false p u q = bad (rw p)
