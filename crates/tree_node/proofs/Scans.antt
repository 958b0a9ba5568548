-- The scans find the places that the rules choose.
use Rattle.laws.specs.Prelude.{Bool, List, [], ◌&&◌, ◌+◌, ◌<◌, ◌∙◌, ◌∷◌, ◌≡◌, ◌≤◌, add-one, and_assoc, and-unit, ap, arith, cond, false, length, ltb, ltb-false, ltb-true, not-suc-le-zero, refl, subst, suc, sym, true, zero, ℕ}
use Rattle.tree_node.specs.Look.{most}
use Rattle.tree_model.proofs.Laws.{least-unique, node-length, node-slot}
use Rattle.tree_model.specs.Prelude.{every, least_count, low, lowest, node_of, node_ok, slot_at, slot_of, slot_ok, sum_counts}
use Rattle.tree_model.specs.declared.Slot.{Slot}

-- ---- the scans, over the first j places
unfoldable pub scan_least : List Slot → ℕ → ℕ
scan_least nd zero = 0
scan_least nd (suc j) = cond (ltb (slot_at nd j).count (slot_at nd (scan_least nd j)).count) j (scan_least nd j)

-- the first j slots pass a test, and the sum of their counts
unfoldable pub every_to : (Slot → Bool) → List Slot → ℕ → Bool
every_to f nd zero = true
every_to f nd (suc j) = every_to f nd j && f (slot_at nd j)

unfoldable pub sum_counts_to : List Slot → ℕ → ℕ
sum_counts_to nd zero = 0
sum_counts_to nd (suc j) = sum_counts_to nd j + (slot_at nd j).count

-- the smallest of the first j counts, above every count where there is none
unfoldable pub fewest : List Slot → ℕ → ℕ
fewest nd zero = most
fewest nd (suc j) = (slot_at nd (scan_least nd (suc j))).count

-- below j, or j
pub last-case : (a j : ℕ) (P : Type 0) → a < suc j → (a < j → P) → (a ≡ j → P) → P
last-case a j P h f g = go (ltb a j) refl
  where
    go : (t : Bool) → ltb a j ≡ t → P
    go true e = f (ltb-true a j e)
    go false e = g (omega (arith, ltb-false a j e))

-- ---- the smallest count
record Small (nd : List Slot) (j b : ℕ) : Type 0 where
  le : (a : ℕ) → a < j → (slot_at nd b).count ≤ (slot_at nd a).count
  left : (a : ℕ) → a < b → (slot_at nd b).count < (slot_at nd a).count
  near : b ≤ j
  inner : 0 < j → b < j

small-next : (nd : List Slot) (j b : ℕ) → Small nd j b → Small nd (suc j) (cond (ltb (slot_at nd j).count (slot_at nd b).count) j b)
small-next nd j b p = go (ltb (slot_at nd j).count (slot_at nd b).count) refl
  where
    at_j : (a : ℕ) (n : ℕ) → a ≡ j → n ≤ (slot_at nd j).count → n ≤ (slot_at nd a).count
    at_j a n e h = subst (λ (a : ℕ). n ≤ (slot_at nd a).count) (sym e) h

    go : (t : Bool) → ltb (slot_at nd j).count (slot_at nd b).count ≡ t → Small nd (suc j) (cond t j b)
    go true e =
        let lt = ltb-true (slot_at nd j).count (slot_at nd b).count e in
        record {
          le = λ a h. last-case a j _ h (λ l. omega (arith, p.le a l, lt)) (λ q. at_j a (slot_at nd j).count q (omega arith));
          left = λ a h. omega (arith, p.le a h, lt);
          near = omega arith;
          inner = λ h. omega arith;
        }
    go false e =
        let ge = ltb-false (slot_at nd j).count (slot_at nd b).count e in
        record {
          le = λ a h. last-case a j _ h (λ l. p.le a l) (λ q. at_j a (slot_at nd b).count q ge);
          left = p.left;
          near = omega (arith, p.near);
          inner = λ h. omega (arith, p.near);
        }

scan-small : (nd : List Slot) (j : ℕ) → Small nd j (scan_least nd j)
unfolding scan_least
scan-small nd zero = record { le = λ a h. absurd (not-suc-le-zero h); left = λ a h. absurd (not-suc-le-zero h); near = omega arith; inner = λ h. h }
scan-small nd (suc j) = small-next nd j (scan_least nd j) (scan-small nd j)

pub scan-least : (m : ℕ) (ws : List ℕ) (i : ℕ) → 0 < m → (scan_least (node_of m ws i) m ≡ least_count (node_of m ws i)) × (scan_least (node_of m ws i) m < m)
scan-least m ws i h =
    let nd : List Slot = node_of m ws i in
    let p = scan-small nd m in
    (sym (least-unique nd (scan_least nd m) (omega (arith, p.inner h, node-length m ws i)) (λ a l. p.le a (omega (arith, node-length m ws i))) p.left), p.inner h)

-- ---- tests and sums, place by place
every-shift : (f : Slot → Bool) (s : Slot) (ss : List Slot) (j : ℕ) → every_to f (s ∷ ss) (suc j) ≡ (f s && every_to f ss j)
unfolding every_to slot_at
every-shift f s ss zero = sym (and-unit (f s))
every-shift f s ss (suc j) = ap (λ (b : Bool). b && f (slot_at ss j)) (every-shift f s ss j) ∙ and_assoc (f s) (every_to f ss j) (f (slot_at ss j))

pub every-to : (f : Slot → Bool) (nd : List Slot) → every_to f nd (length nd) ≡ every f nd
unfolding every every_to
every-to f [] = refl
every-to f (s ∷ ss) = every-shift f s ss (length ss) ∙ ap (λ (b : Bool). f s && b) (every-to f ss)

sum-shift : (s : Slot) (ss : List Slot) (j : ℕ) → sum_counts_to (s ∷ ss) (suc j) ≡ s.count + sum_counts_to ss j
unfolding sum_counts_to slot_at
sum-shift s ss zero = omega arith
sum-shift s ss (suc j) = omega (arith, sum-shift s ss j)

pub sum_to : (nd : List Slot) → sum_counts_to nd (length nd) ≡ sum_counts nd
unfolding sum_counts sum_counts_to
sum_to [] = refl
sum_to (s ∷ ss) = sum-shift s ss (length ss) ∙ ap (λ (n : ℕ). s.count + n) (sum_to ss)

-- ---- what the code has read, as the scans' next step
module _ (m : ℕ) (ws : List ℕ) (i : ℕ) where
  abbrev nd : List Slot
  nd = node_of m ws i

  -- the element that a take gives
  pub low-found : (j : ℕ) (x : Slot) → j ≡ lowest nd → j < m → x ≡ slot_of ws (i + j) → x.element ≡ low nd
  unfolding low
  low-found j x e hj ex = ap (λ (s : Slot). s.element) (ex ∙ sym (node-slot m ws i j hj)) ∙ ap (λ (j : ℕ). (slot_at nd j).element) e

  -- tests and sums
  pub every-next : (f : Slot → Bool) (j : ℕ) (x : Slot) (t u : Bool) → j < m → t ≡ every_to f nd j → x ≡ slot_of ws (i + j) → u ≡ f x → (t && u) ≡ every_to f nd (j + 1)
  unfolding every_to
  every-next f j x t u hj et ex eu = rw (add-one, ← et, node-slot m ws i j hj, ← ex, ← eu)

  pub node-ok-end : (r j : ℕ) (t : Bool) → j ≡ m → t ≡ every_to (slot_ok r) nd j → t ≡ node_ok r nd
  unfolding node_ok
  node-ok-end r j t e p = p ∙ ap (every_to (slot_ok r) nd) (e ∙ sym (node-length m ws i)) ∙ every-to (slot_ok r) nd

  pub sum-next : (j : ℕ) (x : Slot) (a : ℕ) → j < m → a ≡ sum_counts_to nd j → x ≡ slot_of ws (i + j) → a + x.count ≡ sum_counts_to nd (j + 1)
  unfolding sum_counts_to
  sum-next j x a hj ea ex = rw (add-one, ← ea, node-slot m ws i j hj, ← ex)

  pub sum-end : (j a : ℕ) → j ≡ m → a ≡ sum_counts_to nd j → a ≡ sum_counts nd
  sum-end j a e p = p ∙ ap (sum_counts_to nd) (e ∙ sym (node-length m ws i)) ∙ sum_to nd
