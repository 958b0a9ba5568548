-- The loads of all ranks, one behind the other, as one list in leaving order.
use Rattle.laws.specs.Prelude.{Element, List, Upd, [], ◌++◌, ◌+◌, ◌<◌, ◌∙◌, ◌∷◌, ◌≡◌, ◌≤◌, ap, arith, is-upd, le-ltb, length, length-append, lt-ltb, refl, suc, sym, upd, zero, ℕ, ℕ_discrete}
use Rattle.bucket_model.specs.Prelude.{Load, elements, in_order, insert, loaded}

pub order-else : (m m' : ℕ → List Load) (i k : ℕ) → ((j : ℕ) → i ≤ j → j < i + k → m' j ≡ m j) → in_order m' i k ≡ in_order m i k
unfolding in_order
order-else m m' i zero h = refl
order-else m m' i (suc k) h =
    ap (λ (l : List Load). elements i l ++ in_order m' (suc i) k) (h i (omega arith) (omega arith))
    ∙ ap (λ (l : List Element). elements i (m i) ++ l) (order-else m m' (suc i) k (λ j a b. h j (omega arith) (omega arith)))

-- the first of the lowest rank is the first of the list
pub order-pop : (m : ℕ → List Load) (r : ℕ) (t : Load) (ts : List Load) → m r ≡ t ∷ ts → (i k : ℕ) → i ≤ r → r < i + k → ((j : ℕ) → j < r → m j ≡ [])
    → in_order m i k ≡ loaded r t ∷ in_order (upd m r ts) i k
unfolding in_order
order-pop m r t ts e i zero a b h = absurd (omega arith)
order-pop m r t ts e i (suc k) a b h = elim (ℕ_discrete i r) [ yes p ↦ here p | no p ↦ there (λ c. order-pop m r t ts e (suc i) k c (omega arith) h) p ]
  where
    u : Upd m (upd m r ts) r ts
    u = is-upd m r ts

    here : i ≡ r → elements i (m i) ++ in_order m (suc i) k ≡ loaded r t ∷ (elements i (upd m r ts i) ++ in_order (upd m r ts) (suc i) k)
    here p =
        ap (λ (l : List Load). elements i l ++ in_order m (suc i) k) (ap m p ∙ e)
        ∙ ap (λ (x : ℕ). loaded x t ∷ (elements i ts ++ in_order m (suc i) k)) p
        ∙ ap (λ (l : List Element). loaded r t ∷ (elements i ts ++ l)) (sym (order-else m (upd m r ts) (suc i) k (λ j c d. u.else j (λ q. omega arith))))
        ∙ ap (λ (l : List Load). loaded r t ∷ (elements i l ++ in_order (upd m r ts) (suc i) k)) (sym (ap (upd m r ts) p ∙ u.here))

    there : (suc i ≤ r → in_order m (suc i) k ≡ loaded r t ∷ in_order (upd m r ts) (suc i) k) → (i ≡ r → ⊥) → elements i (m i) ++ in_order m (suc i) k ≡ loaded r t ∷ (elements i (upd m r ts i) ++ in_order (upd m r ts) (suc i) k)
    there ih p =
        ap (λ (l : List Load). elements i l ++ in_order m (suc i) k) (h i (omega arith)) ∙ ih (omega arith)
        ∙ ap (λ (l : List Load). loaded r t ∷ (elements i l ++ in_order (upd m r ts) (suc i) k)) (sym (u.else i p ∙ h i (omega arith)))

insert-past : (r : ℕ) (t : Load) (i : ℕ) (ts : List Load) (l : List Element) → i ≤ r → insert (loaded r t) (elements i ts ++ l) ≡ elements i ts ++ insert (loaded r t) l
insert-past r t i [] l h = refl
insert-past r t i (x ∷ xs) l h = simp (le-ltb r i h) (ap (λ (y : List Element). loaded i x ∷ y) (insert-past r t i xs l h))

insert-before : (m : ℕ → List Load) (r : ℕ) (t : Load) (i k : ℕ) → r < i → insert (loaded r t) (in_order m i k) ≡ loaded r t ∷ in_order m i k
unfolding in_order
insert-before m r t i zero h = refl
insert-before m r t i (suc k) h = go (m i) (insert-before m r t (suc i) k (omega arith))
  where
    go : (ts : List Load) → insert (loaded r t) (in_order m (suc i) k) ≡ loaded r t ∷ in_order m (suc i) k → insert (loaded r t) (elements i ts ++ in_order m (suc i) k) ≡ loaded r t ∷ (elements i ts ++ in_order m (suc i) k)
    go [] e = e
    go (x ∷ xs) e = simp (lt-ltb r i h)

elements-snoc : (i : ℕ) (t : Load) (ts : List Load) (l : List Element) → elements i ts ++ loaded i t ∷ l ≡ elements i (ts ++ t ∷ []) ++ l
elements-snoc i t [] l = refl
elements-snoc i t (x ∷ xs) l = ap (λ (y : List Element). loaded i x ∷ y) (elements-snoc i t xs l)

pub order-push : (m : ℕ → List Load) (r : ℕ) (t : Load) (i k : ℕ) → i ≤ r → r < i + k → insert (loaded r t) (in_order m i k) ≡ in_order (upd m r (m r ++ t ∷ [])) i k
unfolding in_order
order-push m r t i zero a b = absurd (omega arith)
order-push m r t i (suc k) a b =
    insert-past r t i (m i) (in_order m (suc i) k) a ∙ elim (ℕ_discrete i r) [ yes p ↦ here p | no p ↦ there (λ c. order-push m r t (suc i) k c (omega arith)) p ]
  where
    u : Upd m (upd m r (m r ++ t ∷ [])) r (m r ++ t ∷ [])
    u = is-upd m r (m r ++ t ∷ [])

    here : i ≡ r → elements i (m i) ++ insert (loaded r t) (in_order m (suc i) k) ≡ elements i (upd m r (m r ++ t ∷ []) i) ++ in_order (upd m r (m r ++ t ∷ [])) (suc i) k
    here p =
        ap (λ (l : List Element). elements i (m i) ++ l) (insert-before m r t (suc i) k (omega arith))
        ∙ ap (λ (x : ℕ). elements i (m i) ++ loaded x t ∷ in_order m (suc i) k) (sym p)
        ∙ elements-snoc i t (m i) (in_order m (suc i) k)
        ∙ ap (λ (l : List Load). elements i (l ++ t ∷ []) ++ in_order m (suc i) k) (ap m p)
        ∙ ap (λ (l : List Load). elements i l ++ in_order m (suc i) k) (sym (ap (upd m r (m r ++ t ∷ [])) p ∙ u.here))
        ∙ ap (λ (l : List Element). elements i (upd m r (m r ++ t ∷ []) i) ++ l) (sym (order-else m (upd m r (m r ++ t ∷ [])) (suc i) k (λ j c d. u.else j (λ q. omega arith))))

    there : (suc i ≤ r → insert (loaded r t) (in_order m (suc i) k) ≡ in_order (upd m r (m r ++ t ∷ [])) (suc i) k) → (i ≡ r → ⊥) → elements i (m i) ++ insert (loaded r t) (in_order m (suc i) k) ≡ elements i (upd m r (m r ++ t ∷ []) i) ++ in_order (upd m r (m r ++ t ∷ [])) (suc i) k
    there ih p =
        ap (λ (l : List Element). elements i (m i) ++ l) (ih (omega arith))
        ∙ ap (λ (l : List Load). elements i l ++ in_order (upd m r (m r ++ t ∷ [])) (suc i) k) (sym (u.else i p))

pub order-none : (m : ℕ → List Load) (i k : ℕ) → ((j : ℕ) → i ≤ j → j < i + k → m j ≡ []) → in_order m i k ≡ []
unfolding in_order
order-none m i zero h = refl
order-none m i (suc k) h =
    ap (λ (l : List Load). elements i l ++ in_order m (suc i) k) (h i (omega arith) (omega arith)) ∙ order-none m (suc i) k (λ j a b. h j (omega arith) (omega arith))

-- a rank that holds something makes the list longer than 0
elements-length : (i : ℕ) (ts : List Load) → length (elements i ts) ≡ length ts
elements-length i [] = refl
elements-length i (t ∷ ts) = ap suc (elements-length i ts)

pub order-some : (m : ℕ → List Load) (r i k : ℕ) → i ≤ r → r < i + k → length (m r) ≤ length (in_order m i k)
unfolding in_order
order-some m r i zero a b = absurd (omega arith)
order-some m r i (suc k) a b = elim (ℕ_discrete i r) [ yes p ↦ here p | no p ↦ there (order-some m r (suc i) k (omega arith) (omega arith)) ]
  where
    all : length (elements i (m i) ++ in_order m (suc i) k) ≡ length (m i) + length (in_order m (suc i) k)
    all = length-append (elements i (m i)) (in_order m (suc i) k) ∙ ap (λ (x : ℕ). x + length (in_order m (suc i) k)) (elements-length i (m i))

    here : i ≡ r → length (m r) ≤ length (elements i (m i) ++ in_order m (suc i) k)
    here p = let q : length (m r) ≡ length (m i) = ap (λ (j : ℕ). length (m j)) (sym p) in omega (arith, all)

    there : length (m r) ≤ length (in_order m (suc i) k) → length (m r) ≤ length (elements i (m i) ++ in_order m (suc i) k)
    there ih = omega (arith, all)
