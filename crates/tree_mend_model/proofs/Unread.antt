-- "of a longer one the rest is never touched": not read either. Two stores that agree on the words of the shape are checked and mended the same.
use Rattle.std.specs.Prelude.{Err, Ok, Option, Some}
use Rattle.laws.specs.Prelude.{BadShape, Bool, List, Push, Request, [], ◌*◌, ◌+◌, ◌/◌, ◌<◌, ◌∷◌, ◌≡◌, ◌≤◌, ap, ap₂, arith, cond, false, length, ltb, ltb-true, mul-le-mul_right, not-suc-le-zero, pred, refl, suc, suc-mul, true, zero, ℕ}
use native.Mathlib.Nat.{div-le_self, mul_comm}
use Rattle.promise.specs.Prelude.{hit}
use Rattle.tree_model.proofs.Laws.{is-shape, words-node, words-slot}
use Rattle.tree_model.specs.Prelude.{Agree, Shape, after, node_of, room, shape_ok, slot_of}
use Rattle.tree_model.specs.declared.Slot.{Slot}
use Rattle.tree_mend_model.specs.Check.{broken_at, checked, rank_above, under_at, walk}
use Rattle.tree_mend_model.specs.Mend.{keeps, mended, mended_as, pushes, skipped, skips}

walk-ext : (t u : ℕ → Bool) (p n : ℕ) → ((i : ℕ) → i < p + n → t i ≡ u i) → walk t p n ≡ walk u p n
unfolding walk
walk-ext t u p zero h = refl
walk-ext t u p (suc n) h =
    ap₂ (λ (b : Bool) (c : Option ℕ). cond b (Some p) c) (h p (omega arith)) (walk-ext t u (suc p) n (λ i l. h i (omega arith)))

module _ (m levels : ℕ) (ws vs : List ℕ) (one : Shape m levels (length ws)) (two : Shape m levels (length vs)) (same : Agree (room m levels) ws vs) where
  slot_same : (i : ℕ) → i < room m levels → slot_of ws i ≡ slot_of vs i
  slot_same i l = words-slot (room m levels) ws vs same i l

  rank_same : (q : ℕ) → q ≤ room m levels → rank_above ws q ≡ rank_above vs q
  unfolding rank_above
  rank_same zero l = refl
  rank_same (suc p) l = ap (λ (s : Slot). s.element.rank.0) (slot_same p l)

  -- the node under a slot that is not of the last level lies within the shape
  under-room : (l i : ℕ) → 1 ≤ l → i < room m (pred l) → suc i * m + m ≤ room m l
  unfolding room
  under-room zero i some h = absurd (not-suc-le-zero some)
  under-room (suc k) i some h = omega (arith, mul-le-mul_right m h, mul_comm m (suc (room m k)), suc-mul (room m k) m)

  under_same : (i : ℕ) → under_at m (room m (pred levels)) ws i ≡ under_at m (room m (pred levels)) vs i
  unfolding under_at
  under_same i = go (ltb i (room m (pred levels))) refl
    where
      go : (b : Bool) → ltb i (room m (pred levels)) ≡ b → cond b (node_of m ws (suc i * m)) [] ≡ cond b (node_of m vs (suc i * m)) []
      go true e = words-node m (room m levels) ws vs same (suc i * m) (under-room levels i one.some (ltb-true i (room m (pred levels)) e))
      go false e = refl

  broken-same : (i : ℕ) → i < room m levels → broken_at m (room m (pred levels)) ws i ≡ broken_at m (room m (pred levels)) vs i
  unfolding broken_at
  broken-same i l = rw (rank_same (i / m) (omega (arith, div-le_self i m)), under_same i, slot_same i l)

  -- UNREAD
  pub unread-check : checked m levels ws ≡ checked m levels vs
  unfolding checked
  unread-check =
      rw (is-shape m levels (length ws) one, is-shape m levels (length vs) two) (ap Ok (walk-ext _ _ 0 (room m levels) (λ i l. broken-same i (omega arith))))

  pushes_same : (n i : ℕ) → i + n ≤ room m levels → pushes ws i n ≡ pushes vs i n
  unfolding pushes
  pushes_same zero i l = refl
  pushes_same (suc n) i l =
      ap₂ (λ (s : Slot) (rs : List Request). cond (keeps s) (Push s.element ∷ rs) rs) (slot_same i (omega arith)) (pushes_same n (suc i) (omega arith))

  skipped-same : (n i : ℕ) → i + n ≤ room m levels → skipped ws i n ≡ skipped vs i n
  unfolding skipped
  skipped-same zero i l = refl
  skipped-same (suc n) i l = ap₂ (λ (s : Slot) (n : ℕ). hit (skips s) + n) (slot_same i (omega arith)) (skipped-same n (suc i) (omega arith))

  pub unread-mend : (to : List ℕ) → mended m levels ws to ≡ mended m levels vs to
  unfolding mended
  unread-mend to =
      rw (is-shape m levels (length ws) one, is-shape m levels (length vs) two)
      (ap₂ (λ (n : ℕ) (rs : List Request). cond (shape_ok m levels (length to)) (mended_as (Ok n) (after m levels rs to)) (mended_as (Err BadShape) to)) (skipped-same (room m levels) 0 (omega arith)) (pushes_same (room m levels) 0 (omega arith)))
