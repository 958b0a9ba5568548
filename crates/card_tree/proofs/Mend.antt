-- What the check and the mender answer, told; a refusal's zeros; and that each contract allows one outcome.
use Rattle.std.specs.Prelude.{Err, Ok, Option, Result}
use Rattle.laws.specs.Prelude.{Bool, List, Refusal, ◌<◌, ◌∙◌, ◌≡◌, ◌≤◌, ap, cond, false, le-leb, leb, length, lt-leb, refl, set, sym, true, ℕ}
use Rattle.card_tree.specs.Mend.{check_answered, check_out, mend_answered, mend_out, tree_check, tree_mend}
use Rattle.card_words.specs.Out.{bad_shape, count_after, CountAfter, refused_out}
use Rattle.card_words.specs.Store.{store_after_out, StoreAfterOut}
use Rattle.tree_mend_model.specs.Check.{checked, check_number}
use Rattle.tree_mend_model.specs.Mend.{Mended, mended, mended_as, mend_number}

-- ---- told
module _ (c : Result (Option ℕ) Refusal) (out : List ℕ) where
  pub check-short : length out < 2 → count_after 1 out ≡ check_answered c out
  unfolding check_answered
  check-short h = rw (lt-leb 2 (length out) h)

  pub check-told : (d : Result (Option ℕ) Refusal) (n : ℕ) (after : List ℕ) → 2 ≤ length out → d ≡ c → (n ≡ check_number d) × (after ≡ check_out d out) → count_after n after ≡ check_answered c out
  unfolding check_answered
  check-told d n after h e p = rw (le-leb 2 (length out) h) ((λ i. record { number = p.0 i; out = p.1 i }) ∙ ap (λ (c : Result (Option ℕ) Refusal). count_after (check_number c) (check_out c out)) e)

module _ (o : Mended) (to out : List ℕ) where
  pub mend-short : length out < 1 → store_after_out 1 to out ≡ mend_answered o to out
  unfolding mend_answered
  mend-short h = rw (lt-leb 1 (length out) h)

  pub mend-told : (a : Result ℕ Refusal) (n : ℕ) (left after : List ℕ) → 1 ≤ length out → mended_as a left ≡ o → (n ≡ mend_number a) × (after ≡ mend_out a out) → store_after_out n left after ≡ mend_answered o to out
  unfolding mend_answered
  mend-told a n left after h e p =
      rw (le-leb 1 (length out) h)
      ((λ i. record { number = p.0 i; store = left; out = p.1 i }) ∙ ap (λ (o : Mended). store_after_out (mend_number o.answer) o.words (mend_out o.answer out)) e)

-- ---- ZEROS: a refused call answers zeros wherever `out` is long enough, and does not touch one that is too short
check-zeros : (c : Result (Option ℕ) Refusal) (out : List ℕ) → (check_number c ≡ 0 → ⊥) → check_out c out ≡ set (set out 0 0) 1 0
check-zeros (Ok p) out h = absurd (h refl)
check-zeros (Err r) out h = refl

mend-zeros : (a : Result ℕ Refusal) (out : List ℕ) → (mend_number a ≡ 0 → ⊥) → mend_out a out ≡ set out 0 0
mend-zeros (Ok n) out h = absurd (h refl)
mend-zeros (Err r) out h = refl

module _ (m levels : ℕ) (ws : List ℕ) where
  pub zeros-tree-check : (out : List ℕ) → ((tree_check m levels ws out).number ≡ 0 → ⊥) → (tree_check m levels ws out).out ≡ refused_out 2 out
  unfolding check_answered refused_out
  zeros-tree-check out h = go (checked m levels ws) (leb 2 (length out)) h
    where
      go : (c : Result (Option ℕ) Refusal) (b : Bool) → ((cond b (count_after (check_number c) (check_out c out)) (count_after bad_shape out)).number ≡ 0 → ⊥)
          → (cond b (count_after (check_number c) (check_out c out)) (count_after bad_shape out)).out ≡ cond b (set (set out 0 0) 1 0) out
      go c true h = check-zeros c out h
      go c false h = refl

  pub zeros-tree-mend : (to out : List ℕ) → ((tree_mend m levels ws to out).number ≡ 0 → ⊥) → (tree_mend m levels ws to out).out ≡ refused_out 1 out
  unfolding mend_answered refused_out
  zeros-tree-mend to out h = go (mended m levels ws to) (leb 1 (length out)) h
    where
      go : (o : Mended) (b : Bool) → ((cond b (store_after_out (mend_number o.answer) o.words (mend_out o.answer out)) (store_after_out bad_shape to out)).number ≡ 0 → ⊥)
          → (cond b (store_after_out (mend_number o.answer) o.words (mend_out o.answer out)) (store_after_out bad_shape to out)).out ≡ cond b (set out 0 0) out
      go o true h = mend-zeros o.answer out h
      go o false h = refl

  -- ---- PINNED; n and k are two numbers returned, v and w two second stores, x and y two `out`s
  pub pinned-tree-check : (out : List ℕ) (n k : ℕ) (x y : List ℕ) → count_after n x ≡ tree_check m levels ws out → count_after k y ≡ tree_check m levels ws out → (n ≡ k) × (x ≡ y)
  pinned-tree-check out n k x y p q = (ap (λ (o : CountAfter). o.number) (p ∙ sym q), ap (λ (o : CountAfter). o.out) (p ∙ sym q))

  pub pinned-tree-mend : (to out : List ℕ) (n k : ℕ) (v w x y : List ℕ) → store_after_out n v x ≡ tree_mend m levels ws to out → store_after_out k w y ≡ tree_mend m levels ws to out
      → (n ≡ k) × (v ≡ w) × (x ≡ y)
  pinned-tree-mend to out n k v w x y p q =
      (ap (λ (o : StoreAfterOut). o.number) (p ∙ sym q), ap (λ (o : StoreAfterOut). o.store) (p ∙ sym q), ap (λ (o : StoreAfterOut). o.out) (p ∙ sym q))
