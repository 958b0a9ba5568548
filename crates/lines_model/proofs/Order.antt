-- The lines one behind the other, as one list.
use Rattle.laws.specs.Prelude.{All, Bool, Element, List, [], ◌++◌, ◌+◌, ◌<◌, ◌∙◌, ◌∷◌, ◌≡◌, ◌≤◌, ap, arith, is-upd, length, length-append, refl, suc, sym, upd, zero, ℕ, ℕ_discrete}
use Rattle.lines_model.specs.Promise.{in_order}
use Rattle.lines_model.specs.Rules.{total}
use Rattle.promise.proofs.FirstIn.{insert-before, insert-past, times-append}
use Rattle.promise.specs.FirstIn.{insert, times}

pub order-else : (m m' : ℕ → List Element) (i n : ℕ) → ((j : ℕ) → i ≤ j → j < i + n → m' j ≡ m j) → in_order m' i n ≡ in_order m i n
unfolding in_order
order-else m m' i zero h = refl
order-else m m' i (suc n) h =
    ap (λ (l : List Element). l ++ in_order m' (suc i) n) (h i (omega arith) (omega arith))
    ∙ ap (λ (l : List Element). m i ++ l) (order-else m m' (suc i) n (λ j a b. h j (omega arith) (omega arith)))

pub order-none : (m : ℕ → List Element) (i n : ℕ) → ((j : ℕ) → i ≤ j → j < i + n → m j ≡ []) → in_order m i n ≡ []
unfolding in_order
order-none m i zero h = refl
order-none m i (suc n) h = ap (λ (l : List Element). l ++ in_order m (suc i) n) (h i (omega arith) (omega arith)) ∙ order-none m (suc i) n (λ j a b. h j (omega arith) (omega arith))

pub all_append : (P : Element → Type 0) (xs ys : List Element) → All P xs → All P ys → All P (xs ++ ys)
all_append P [] ys a b = b
all_append P (x ∷ xs) ys a b = (a.0, all_append P xs ys a.1 b)

pub order-all : (P : Element → Type 0) (m : ℕ → List Element) (i n : ℕ) → ((j : ℕ) → i ≤ j → j < i + n → All P (m j)) → All P (in_order m i n)
unfolding in_order
order-all P m i zero h = tt
order-all P m i (suc n) h = all_append P (m i) (in_order m (suc i) n) (h i (omega arith) (omega arith)) (order-all P m (suc i) n (λ j a b. h j (omega arith) (omega arith)))

-- as many as the counts say
pub order-length : (m : ℕ → List Element) (c : ℕ → ℕ) (i n : ℕ) → ((j : ℕ) → j < i + n → c j ≡ length (m j)) → length (in_order m i n) + total c i ≡ total c (i + n)
unfolding in_order total
order-length m c i zero h = let z : i ≡ i + 0 = omega arith in let e : total c i ≡ total c (i + 0) = ap (total c) z in omega arith
order-length m c i (suc n) h =
    let z : suc i + n ≡ i + suc n = omega arith in
    let e : total c (suc i + n) ≡ total c (i + suc n) = ap (total c) z in
    omega (arith, order-length m c (suc i) n (λ j l. h j (omega arith)), length-append (m i) (in_order m (suc i) n), h i (omega arith))

-- ---- how many pass a test

-- one line changed
pub order-times : (g : Element → Bool) (m : ℕ → List Element) (l : ℕ) (ys : List Element) (i n : ℕ) → i ≤ l → l < i + n
    → times g (in_order (upd m l ys) i n) + times g (m l) ≡ times g (in_order m i n) + times g ys
unfolding in_order
order-times g m l ys i zero a b = absurd (omega arith)
order-times g m l ys i (suc n) a b = elim (ℕ_discrete i l) [ yes p ↦ here p | no p ↦ there (λ c. order-times g m l ys (suc i) n c (omega arith)) p ]
  where
    here : i ≡ l → times g (upd m l ys i ++ in_order (upd m l ys) (suc i) n) + times g (m l) ≡ times g (m i ++ in_order m (suc i) n) + times g ys
    here p =
        let e : times g (upd m l ys i) ≡ times g ys = ap (times g) (ap (upd m l ys) p ∙ (is-upd m l ys).here) in
        let f : times g (in_order (upd m l ys) (suc i) n) ≡ times g (in_order m (suc i) n) = ap (times g) (order-else m (upd m l ys) (suc i) n (λ j c d. (is-upd m l ys).else j (λ q. omega arith))) in
        let q : times g (m i) ≡ times g (m l) = ap (λ (j : ℕ). times g (m j)) p in
        omega (arith, times-append g (upd m l ys i) (in_order (upd m l ys) (suc i) n), times-append g (m i) (in_order m (suc i) n))

    there : (suc i ≤ l → times g (in_order (upd m l ys) (suc i) n) + times g (m l) ≡ times g (in_order m (suc i) n) + times g ys) → (i ≡ l → ⊥)
        → times g (upd m l ys i ++ in_order (upd m l ys) (suc i) n) + times g (m l) ≡ times g (m i ++ in_order m (suc i) n) + times g ys
    there ih p =
        let e : times g (upd m l ys i) ≡ times g (m i) = ap (times g) ((is-upd m l ys).else i p) in
        omega (arith, ih (omega arith), times-append g (upd m l ys i) (in_order (upd m l ys) (suc i) n), times-append g (m i) (in_order m (suc i) n))

-- ---- a newcomer

-- into line r, where no rank before is above and all behind are
module _ (m : ℕ → List Element) (x : Element) (r q : ℕ) (low : (j : ℕ) → j < r → All (λ y. y.rank.0 ≤ x.rank.0) (m j)) (high : (j : ℕ) → r < j → j < q → All (λ y. x.rank.0 < y.rank.0) (m j)) where
  pub order-push : (i n : ℕ) → i ≤ r → r < i + n → i + n ≤ q → insert x (in_order m i n) ≡ in_order (upd m r (insert x (m r))) i n
  unfolding in_order
  order-push i zero a b c = absurd (omega arith)
  order-push i (suc n) a b c = elim (ℕ_discrete i r) [ yes p ↦ here p | no p ↦ there (λ d. order-push (suc i) n d (omega arith) (omega arith)) p ]
    where
      here : i ≡ r → insert x (m i ++ in_order m (suc i) n) ≡ upd m r (insert x (m r)) i ++ in_order (upd m r (insert x (m r))) (suc i) n
      here p =
          insert-before x (m i) (in_order m (suc i) n) (order-all (λ y. x.rank.0 < y.rank.0) m (suc i) n (λ j d e. high j (omega arith) (omega arith)))
          ∙ ap (λ (l : List Element). l ++ in_order m (suc i) n) (sym (ap (upd m r (insert x (m r))) p ∙ (is-upd m r (insert x (m r))).here ∙ ap (λ (j : ℕ). insert x (m j)) (sym p)))
          ∙ ap (λ (l : List Element). upd m r (insert x (m r)) i ++ l) (sym (order-else m (upd m r (insert x (m r))) (suc i) n (λ j d e. (is-upd m r (insert x (m r))).else j (λ z. omega arith))))

      there : (suc i ≤ r → insert x (in_order m (suc i) n) ≡ in_order (upd m r (insert x (m r))) (suc i) n) → (i ≡ r → ⊥)
          → insert x (m i ++ in_order m (suc i) n) ≡ upd m r (insert x (m r)) i ++ in_order (upd m r (insert x (m r))) (suc i) n
      there ih p =
          insert-past x (m i) (in_order m (suc i) n) (low i (omega arith)) ∙ ap (λ (l : List Element). m i ++ l) (ih (omega arith))
          ∙ ap (λ (l : List Element). l ++ in_order (upd m r (insert x (m r))) (suc i) n) (sym ((is-upd m r (insert x (m r))).else i p))

-- the first of the first line that is not empty is the first of all
pub order-pop : (m : ℕ → List Element) (r : ℕ) (t : Element) (ts : List Element) → m r ≡ t ∷ ts → (i n : ℕ) → i ≤ r → r < i + n → ((j : ℕ) → j < r → m j ≡ [])
    → in_order m i n ≡ t ∷ in_order (upd m r ts) i n
unfolding in_order
order-pop m r t ts e i zero a b h = absurd (omega arith)
order-pop m r t ts e i (suc n) a b h = elim (ℕ_discrete i r) [ yes p ↦ here p | no p ↦ there (λ c. order-pop m r t ts e (suc i) n c (omega arith) h) p ]
  where
    here : i ≡ r → m i ++ in_order m (suc i) n ≡ t ∷ (upd m r ts i ++ in_order (upd m r ts) (suc i) n)
    here p =
        ap (λ (l : List Element). l ++ in_order m (suc i) n) (ap m p ∙ e)
        ∙ ap (λ (l : List Element). t ∷ (ts ++ l)) (sym (order-else m (upd m r ts) (suc i) n (λ j c d. (is-upd m r ts).else j (λ q. omega arith))))
        ∙ ap (λ (l : List Element). t ∷ (l ++ in_order (upd m r ts) (suc i) n)) (sym (ap (upd m r ts) p ∙ (is-upd m r ts).here))

    there : (suc i ≤ r → in_order m (suc i) n ≡ t ∷ in_order (upd m r ts) (suc i) n) → (i ≡ r → ⊥) → m i ++ in_order m (suc i) n ≡ t ∷ (upd m r ts i ++ in_order (upd m r ts) (suc i) n)
    there ih p =
        ap (λ (l : List Element). l ++ in_order m (suc i) n) (h i (omega arith)) ∙ ih (omega arith)
        ∙ ap (λ (l : List Element). t ∷ (l ++ in_order (upd m r ts) (suc i) n)) (sym ((is-upd m r ts).else i p ∙ h i (omega arith)))
