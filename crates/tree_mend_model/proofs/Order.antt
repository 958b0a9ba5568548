-- The mender pushes in slice order.
use Rattle.laws.specs.Prelude.{All, Any, Bool, List, Means, Push, Request, [], ◌+◌, ◌<◌, ◌∙◌, ◌∷◌, ◌≡◌, ◌≤◌, all_map, ap, arith, cond, false, inl, inr, map, means-and, means-eqb, means-not, refl, subst, suc, sym, true, true≢false, untagged, zero, ℕ, ℕ_discrete, ⊎_elim}
use Rattle.tree_model.specs.Prelude.{four_words, is_empty, slot_of}
use Rattle.tree_mend_model.specs.Mend.{keeps, pushes}
use Rattle.tree_mend_model.specs.Promise.{InSliceOrder, Rising}

-- the slots that are kept, of slot i and the n - 1 after it
kept : List ℕ → ℕ → ℕ → List ℕ
kept ws i zero = []
kept ws i (suc n) = cond (keeps (slot_of ws i)) (i ∷ kept ws (suc i) n) (kept ws (suc i) n)

keeps-means : (ws : List ℕ) (p : ℕ) → Means (keeps (slot_of ws p)) (((four_words ws p).count ≡ 0 → ⊥) × ((four_words ws p).element.tag.0 ≡ 0 → ⊥))
unfolding keeps is_empty untagged slot_of
keeps-means ws p = means-and (means-not (means-eqb (four_words ws p).count 0)) (means-not (means-eqb (four_words ws p).element.tag.0 0))

module _ (ws : List ℕ) where
  abbrev one : ℕ → Request
  one p = Push (four_words ws p).element

  kept-pushes : (i n : ℕ) → pushes ws i n ≡ map one (kept ws i n)
  unfolding kept pushes slot_of
  kept-pushes i zero = refl
  kept-pushes i (suc n) = go (keeps (slot_of ws i)) (kept-pushes (suc i) n)
    where
      go : (b : Bool) → pushes ws (suc i) n ≡ map one (kept ws (suc i) n)
          → cond b (one i ∷ pushes ws (suc i) n) (pushes ws (suc i) n) ≡ map one (cond b (i ∷ kept ws (suc i) n) (kept ws (suc i) n))
      go true e = ap (λ (l : List Request). one i ∷ l) e
      go false e = e

  kept_from : (i n : ℕ) → All (λ q. i ≤ q) (kept ws i n)
  unfolding kept
  kept_from i zero = tt
  kept_from i (suc n) = go (keeps (slot_of ws i)) (all_map (λ q. suc i ≤ q) (λ q. i ≤ q) (λ q h. omega arith) (kept ws (suc i) n) (kept_from (suc i) n))
    where
      go : (b : Bool) → All (λ q. i ≤ q) (kept ws (suc i) n) → All (λ q. i ≤ q) (cond b (i ∷ kept ws (suc i) n) (kept ws (suc i) n))
      go true h = (omega arith, h)
      go false h = h

  kept-rising : (i n : ℕ) → Rising (kept ws i n)
  unfolding kept
  kept-rising i zero = tt
  kept-rising i (suc n) = go (keeps (slot_of ws i)) (kept-rising (suc i) n)
    where
      go : (b : Bool) → Rising (kept ws (suc i) n) → Rising (cond b (i ∷ kept ws (suc i) n) (kept ws (suc i) n))
      go true h = (kept_from (suc i) n, h)
      go false h = h

  kept-is : (i n p : ℕ) → Any (λ q. q ≡ p) (kept ws i n) → (p < i + n) × (keeps (slot_of ws p) ≡ true)
  unfolding kept
  kept-is i zero p h = absurd h
  kept-is i (suc n) p h = go (keeps (slot_of ws i)) refl h (kept-is (suc i) n p)
    where
      later : (p < suc i + n) × (keeps (slot_of ws p) ≡ true) → (p < i + suc n) × (keeps (slot_of ws p) ≡ true)
      later u = (omega (arith, u.0), u.1)

      go : (b : Bool) → keeps (slot_of ws i) ≡ b → Any (λ q. q ≡ p) (cond b (i ∷ kept ws (suc i) n) (kept ws (suc i) n))
          → (Any (λ q. q ≡ p) (kept ws (suc i) n) → (p < suc i + n) × (keeps (slot_of ws p) ≡ true)) → (p < i + suc n) × (keeps (slot_of ws p) ≡ true)
      go true e h f = ⊎_elim (λ z. (omega (arith, z), subst (λ (q : ℕ). keeps (slot_of ws q) ≡ true) z e)) (λ z. later (f z)) h
      go false e h f = later (f h)

  is-kept : (i n p : ℕ) → i ≤ p → p < i + n → keeps (slot_of ws p) ≡ true → Any (λ q. q ≡ p) (kept ws i n)
  unfolding kept
  is-kept i zero p lo hi k = absurd (omega arith)
  is-kept i (suc n) p lo hi k = go (keeps (slot_of ws i)) refl (λ l. is-kept (suc i) n p l (omega arith) k)
    where
      go : (b : Bool) → keeps (slot_of ws i) ≡ b → (suc i ≤ p → Any (λ q. q ≡ p) (kept ws (suc i) n)) → Any (λ q. q ≡ p) (cond b (i ∷ kept ws (suc i) n) (kept ws (suc i) n))
      go true e f = elim (ℕ_discrete i p) [
        | yes z ↦ inl z
        | no z ↦ inr (f (omega arith))
      ]
      go false e f = elim (ℕ_discrete i p) [
        | yes z ↦ absurd (true≢false (sym k ∙ subst (λ (q : ℕ). keeps (slot_of ws q) ≡ false) z e))
        | no z ↦ f (omega arith)
      ]

  -- SLICE-ORDER
  pub slice-order : (n : ℕ) → InSliceOrder ws n (pushes ws 0 n)
  slice-order n =
      record {
        slots = kept ws 0 n;
        pushed = kept-pushes 0 n;
        rising = kept-rising 0 n;
        these = λ p. record {
          to = λ h. let k = kept-is 0 n p h in let m = (keeps-means ws p).says k.1 in (omega (arith, k.0), m.0, m.1);
          from = λ h. is-kept 0 n p (omega arith) (omega (arith, h.0)) ((keeps-means ws p).holds (h.1, h.2));
        };
      }
