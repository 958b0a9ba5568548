-- The waiting strips of one flow, in the ledger's order: each one's rank is the rank before it plus its cost.
use Rattle.laws.specs.Prelude.{All, Any, Bool, List, [], ◌++◌, ◌+◌, ◌<◌, ◌∷◌, ◌≡◌, ◌≤◌, ◌⊎◌, arith, eq-eqb, eqb, eqb-false, eqb-true, false, get_or, inl, inr, le_of_suc-le-suc, length, ne_eqb, not-suc-le-zero, refl, subst, suc, sym, take, true, zero, ℕ, ⊎_elim}
use Rattle.fair_model.specs.Ledger.{cost, no_strip, rank, Strip, without}

-- one strip of the ledger: of the flow, or passed over
abbrev pub Link : Bool → ℕ → Strip → Type 0 → Type 0 → Type 0
Link true p x own other = (rank x ≡ p + cost x) × own
Link false p x own other = other

-- from the start of the first to the finish of the last
abbrev pub Chain : ℕ → ℕ → List Strip → ℕ → Type 0
Chain i p [] e = p ≡ e
Chain i p (x ∷ l) e = Link (eqb x.flow i) p x (Chain i (rank x) l e) (Chain i p l e)

-- a chain of one flow
module _ (i : ℕ) where
  pub chain-le : (p : ℕ) (l : List Strip) (e : ℕ) → Chain i p l e → p ≤ e
  chain-le p [] e c = omega arith
  chain-le p (x ∷ l) e c = go (eqb x.flow i) c (chain-le (rank x) l e) (chain-le p l e)
    where
      go : (b : Bool) → Link b p x (Chain i (rank x) l e) (Chain i p l e) → (Chain i (rank x) l e → rank x ≤ e) → (Chain i p l e → p ≤ e) → p ≤ e
      go true c f g = omega (arith, c.0, f c.1)
      go false c f g = g c

  -- with a strip of the flow that waits, the last finish is at least any number that no rank is below
  pub chain-some : (v p : ℕ) (l : List Strip) (e : ℕ) → Any (λ x. x.flow ≡ i) l → All (λ x. v ≤ rank x) l → Chain i p l e → v ≤ e
  chain-some v p [] e a h c = absurd a
  chain-some v p (x ∷ l) e a h c = go (eqb x.flow i) refl c (chain-le (rank x) l e) (λ a. chain-some v p l e a h.1)
    where
      go : (b : Bool) → eqb x.flow i ≡ b → Link b p x (Chain i (rank x) l e) (Chain i p l e) → (Chain i (rank x) l e → rank x ≤ e)
          → (Any (λ x. x.flow ≡ i) l → Chain i p l e → v ≤ e) → v ≤ e
      go true t c f g = omega (arith, h.0, f c.1)
      go false t c f g = g (⊎_elim (λ q. absurd (eqb-false x.flow i t q)) (λ q. q) a) c

  -- .. and the first strip's start is near: v is at most one largest cost after it
  pub chain-near : (v b p : ℕ) (l : List Strip) (e : ℕ) → Any (λ x. x.flow ≡ i) l → All (λ x. v ≤ rank x) l → All (λ x. x.flow ≡ i → cost x ≤ b) l
      → Chain i p l e → v ≤ p + b
  chain-near v b p [] e a h k c = absurd a
  chain-near v b p (x ∷ l) e a h k c = go (eqb x.flow i) refl c (λ a. chain-near v b p l e a h.1 k.1)
    where
      go : (t : Bool) → eqb x.flow i ≡ t → Link t p x (Chain i (rank x) l e) (Chain i p l e)
          → (Any (λ x. x.flow ≡ i) l → Chain i p l e → v ≤ p + b) → v ≤ p + b
      go true t c g = omega (arith, h.0, c.0, k.0 (eqb-true x.flow i t))
      go false t c g = g (⊎_elim (λ q. absurd (eqb-false x.flow i t q)) (λ q. q) a) c

  -- with none of the flow waiting a chain is empty, and starts where one likes
  pub chain-none : (p : ℕ) (l : List Strip) (e : ℕ) → All (λ x. x.flow ≡ i → ⊥) l → Chain i p l e → p ≡ e
  chain-none p [] e h c = c
  chain-none p (x ∷ l) e h c = chain-none p l e h.1 (subst (λ (b : Bool). Link b p x (Chain i (rank x) l e) (Chain i p l e)) (ne_eqb x.flow i h.0) c)

  pub chain-any : (p : ℕ) (l : List Strip) → All (λ x. x.flow ≡ i → ⊥) l → Chain i p l p
  chain-any p [] h = refl
  chain-any p (x ∷ l) h = subst (λ (b : Bool). Link b p x (Chain i (rank x) l p) (Chain i p l p)) (sym (ne_eqb x.flow i h.0)) (chain-any p l h.1)

  pub some_or_none : (l : List Strip) → Any (λ x. x.flow ≡ i) l ⊎ All (λ x. x.flow ≡ i → ⊥) l
  some_or_none [] = inr tt
  some_or_none (x ∷ l) = go (eqb x.flow i) refl (some_or_none l)
    where
      go : (b : Bool) → eqb x.flow i ≡ b → Any (λ x. x.flow ≡ i) l ⊎ All (λ x. x.flow ≡ i → ⊥) l
          → Any (λ x. x.flow ≡ i) (x ∷ l) ⊎ All (λ x. x.flow ≡ i → ⊥) (x ∷ l)
      go true t r = inl (inl (eqb-true x.flow i t))
      go false t r = ⊎_elim (λ a. inl (inr a)) (λ n. inr (eqb-false x.flow i t, n)) r

  -- ---- a strip comes in
  pub chain-comes : (p : ℕ) (l : List Strip) (e : ℕ) (y : Strip) → y.flow ≡ i → rank y ≡ e + cost y → Chain i p l e → Chain i p (l ++ y ∷ []) (rank y)
  chain-comes p [] e y f r c = subst (λ (b : Bool). Link b p y (rank y ≡ rank y) (p ≡ rank y)) (sym (eq-eqb y.flow i f)) (omega (arith, c), refl)
  chain-comes p (x ∷ l) e y f r c = go (eqb x.flow i) c (chain-comes (rank x) l e y f r) (chain-comes p l e y f r)
    where
      go : (b : Bool) → Link b p x (Chain i (rank x) l e) (Chain i p l e) → (Chain i (rank x) l e → Chain i (rank x) (l ++ y ∷ []) (rank y))
          → (Chain i p l e → Chain i p (l ++ y ∷ []) (rank y)) → Link b p x (Chain i (rank x) (l ++ y ∷ []) (rank y)) (Chain i p (l ++ y ∷ []) (rank y))
      go true c f g = (c.0, f c.1)
      go false c f g = g c

  pub chain-passes : (p : ℕ) (l : List Strip) (e : ℕ) (y : Strip) → (y.flow ≡ i → ⊥) → Chain i p l e → Chain i p (l ++ y ∷ []) e
  chain-passes p [] e y f c = subst (λ (b : Bool). Link b p y (rank y ≡ e) (p ≡ e)) (sym (ne_eqb y.flow i f)) c
  chain-passes p (x ∷ l) e y f c = go (eqb x.flow i) c (chain-passes (rank x) l e y f) (chain-passes p l e y f)
    where
      go : (b : Bool) → Link b p x (Chain i (rank x) l e) (Chain i p l e) → (Chain i (rank x) l e → Chain i (rank x) (l ++ y ∷ []) e)
          → (Chain i p l e → Chain i p (l ++ y ∷ []) e) → Link b p x (Chain i (rank x) (l ++ y ∷ []) e) (Chain i p (l ++ y ∷ []) e)
      go true c f g = (c.0, f c.1)
      go false c f g = g c

  -- ---- a strip goes out
  -- of another flow
  pub chain-other : (n p : ℕ) (l : List Strip) (e : ℕ) → ((get_or l n no_strip).flow ≡ i → ⊥) → n < length l → Chain i p l e → Chain i p (without n l) e
  unfolding without
  chain-other n p [] e f h c = c
  chain-other zero p (x ∷ l) e f h c = subst (λ (b : Bool). Link b p x (Chain i (rank x) l e) (Chain i p l e)) (ne_eqb x.flow i f) c
  chain-other (suc n) p (x ∷ l) e f h c =
      go (eqb x.flow i) c (chain-other n (rank x) l e f (le_of_suc-le-suc h)) (chain-other n p l e f (le_of_suc-le-suc h))
    where
      go : (b : Bool) → Link b p x (Chain i (rank x) l e) (Chain i p l e) → (Chain i (rank x) l e → Chain i (rank x) (without n l) e)
          → (Chain i p l e → Chain i p (without n l) e) → Link b p x (Chain i (rank x) (without n l) e) (Chain i p (without n l) e)
      go true c f g = (c.0, f c.1)
      go false c f g = g c

  -- a strip of the flow ranks after the start
  pub chain-after : (n p : ℕ) (l : List Strip) (e : ℕ) → (get_or l n no_strip).flow ≡ i → n < length l → All (λ x. 0 < cost x) l → Chain i p l e
      → p < rank (get_or l n no_strip)
  chain-after n p [] e f h k c = absurd (not-suc-le-zero h)
  chain-after zero p (x ∷ l) e f h k c =
      let d : (rank x ≡ p + cost x) × Chain i (rank x) l e =
      subst (λ (b : Bool). Link b p x (Chain i (rank x) l e) (Chain i p l e)) (eq-eqb x.flow i f) c in
      omega (arith, d.0, k.0)
  chain-after (suc n) p (x ∷ l) e f h k c = go (eqb x.flow i) c (chain-after n (rank x) l e f (le_of_suc-le-suc h) k.1) (chain-after n p l e f (le_of_suc-le-suc h) k.1)
    where
      go : (b : Bool) → Link b p x (Chain i (rank x) l e) (Chain i p l e) → (Chain i (rank x) l e → rank x < rank (get_or l n no_strip))
          → (Chain i p l e → p < rank (get_or l n no_strip)) → p < rank (get_or l n no_strip)
      go true c f g = omega (arith, c.0, f c.1, k.0)
      go false c f g = g c

  -- of the flow, with no lower rank waiting: it is the flow's first
  pub chain-goes : (n p : ℕ) (l : List Strip) (e : ℕ) → (get_or l n no_strip).flow ≡ i → n < length l → All (λ x. 0 < cost x) l
      → All (λ x. rank (get_or l n no_strip) ≤ rank x) l → Chain i p l e
      → (rank (get_or l n no_strip) ≡ p + cost (get_or l n no_strip)) × Chain i (rank (get_or l n no_strip)) (without n l) e
  unfolding without
  chain-goes n p [] e f h k m c = absurd (not-suc-le-zero h)
  chain-goes zero p (x ∷ l) e f h k m c = subst (λ (b : Bool). Link b p x (Chain i (rank x) l e) (Chain i p l e)) (eq-eqb x.flow i f) c
  chain-goes (suc n) p (x ∷ l) e f h k m c =
      go (eqb x.flow i) refl c (chain-after n (rank x) l e f (le_of_suc-le-suc h) k.1) (chain-goes n p l e f (le_of_suc-le-suc h) k.1 m.1)
    where
      z : Strip
      z = get_or l n no_strip

      go : (b : Bool) → eqb x.flow i ≡ b → Link b p x (Chain i (rank x) l e) (Chain i p l e) → (Chain i (rank x) l e → rank x < rank (get_or l n no_strip))
          → (Chain i p l e → (rank (get_or l n no_strip) ≡ p + cost (get_or l n no_strip)) × Chain i (rank (get_or l n no_strip)) (without n l) e)
          → (rank (get_or l n no_strip) ≡ p + cost (get_or l n no_strip)) × Link b (rank (get_or l n no_strip)) x (Chain i (rank x) (without n l) e) (Chain i (rank (get_or l n no_strip)) (without n l) e)
      go true t c f g = let lt = f c.1 in absurd (omega (arith, lt, m.0))
      go false t c f g = g c

  -- .. and none of the flow stands before it
  pub chain_first : (n p : ℕ) (l : List Strip) (e : ℕ) → (get_or l n no_strip).flow ≡ i → n < length l → All (λ x. 0 < cost x) l
      → All (λ x. rank (get_or l n no_strip) ≤ rank x) l → Chain i p l e → All (λ x. x.flow ≡ i → ⊥) (take n l)
  chain_first n p [] e f h k m c = absurd (not-suc-le-zero h)
  chain_first zero p (x ∷ l) e f h k m c = tt
  chain_first (suc n) p (x ∷ l) e f h k m c =
      go (eqb x.flow i) refl c (chain-after n (rank x) l e f (le_of_suc-le-suc h) k.1) (chain_first n p l e f (le_of_suc-le-suc h) k.1 m.1)
    where
      go : (b : Bool) → eqb x.flow i ≡ b → Link b p x (Chain i (rank x) l e) (Chain i p l e) → (Chain i (rank x) l e → rank x < rank (get_or l n no_strip))
          → (Chain i p l e → All (λ x. x.flow ≡ i → ⊥) (take n l)) → (x.flow ≡ i → ⊥) × All (λ x. x.flow ≡ i → ⊥) (take n l)
      go true t c f g = let lt = f c.1 in absurd (omega (arith, lt, m.0))
      go false t c f g = (eqb-false x.flow i t, g c)
