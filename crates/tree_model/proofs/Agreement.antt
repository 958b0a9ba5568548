-- Words and levels: the same levels are the same words as far as the capacity goes, and the same words the same levels.
use Rattle.laws.specs.Prelude.{Bool, List, [], ◌*◌, ◌+◌, ◌-◌, ◌<◌, ◌∙◌, ◌≡◌, ◌≤◌, ap, ap₂, arith, element_words, ext_get_or, false, get_or, length, ltb, ltb-false, ltb-true, not-suc-le-zero, refl, subst, suc, suc-mul, sym, true, zero, zero-add, ℕ}
use native.Mathlib.Nat.{zero-mul}
use Rattle.tree_model.proofs.Hang.{past}
use Rattle.strip.proofs.Words.{read-local, same-words as element-words}
use Rattle.tree_model.proofs.Words.{level-ext, level-node, node-slot, size_room, slot-path, tab-ext}
use Rattle.tree_model.specs.Prelude.{Agree, Level, Levels, Slot, level_of, levels_of, node_of, room, size, slot_at, slot_of, slot_words}

-- a number below c * m by its row and its place
pub record Place (m c i : ℕ) : Type 0 where
  pub row : ℕ
  pub place : ℕ
  pub in_rows : row < c
  pub in_row : place < m
  pub is : i ≡ row * m + place

pub place_of : (m c i : ℕ) → i < c * m → Place m c i
place_of m zero i h = absurd (not-suc-le-zero (rw zero-mul at h))
place_of m (suc c) i h = go (ltb i m) refl (place_of m c (i - m))
  where
    go : (b : Bool) → ltb i m ≡ b → (i - m < c * m → Place m c (i - m)) → Place m (suc c) i
    go true e ih = record { row = 0; place = i; in_rows = omega arith; in_row = ltb-true i m e; is = omega arith }
    go false e ih =
        let l : m ≤ i = ltb-false i m e in
        let d = ih (omega (arith, suc-mul c m)) in
        record { row = suc d.row; place = d.place; in_rows = omega (arith, d.in_rows); in_row = d.in_row; is = omega (arith, d.is, suc-mul d.row m) }

module _ (m : ℕ) where
  level-slots : (ws vs : List ℕ) (b c : ℕ) → level_of m ws b c ≡ level_of m vs b c → (i : ℕ) → i < c * m → slot_of ws (b + i) ≡ slot_of vs (b + i)
  level-slots ws vs b c e i h =
      let d = place_of m c i h in
      let at : b + i ≡ b + d.row * m + d.place = omega (arith, d.is) in
      let nodes : node_of m ws (b + d.row * m) ≡ node_of m vs (b + d.row * m) =
      sym (level-node m ws b c d.row d.in_rows) ∙ ap (λ (l : Level). get_or l d.row []) e ∙ level-node m vs b c d.row d.in_rows in
      ap (slot_of ws) at ∙ sym (node-slot m ws (b + d.row * m) d.place d.in_row)
      ∙ ap (λ (nd : List Slot). slot_at nd d.place) nodes ∙ node-slot m vs (b + d.row * m) d.place d.in_row ∙ ap (slot_of vs) (sym at)

  levels-slots : (k : ℕ) (ws vs : List ℕ) (b c : ℕ) → levels_of m k ws b c ≡ levels_of m k vs b c → (i : ℕ) → i < size m k c → slot_of ws (b + i) ≡ slot_of vs (b + i)
  unfolding levels_of size
  levels-slots zero ws vs b c e i h = absurd (not-suc-le-zero h)
  levels-slots (suc k) ws vs b c e i h = go (ltb i (c * m)) refl (levels-slots k ws vs (b + c * m) (c * m) (ap (λ (l : Levels (suc k)). l.1) e) (i - c * m))
    where
      go : (t : Bool) → ltb i (c * m) ≡ t → (i - c * m < size m k (c * m) → slot_of ws (b + c * m + (i - c * m)) ≡ slot_of vs (b + c * m + (i - c * m))) → slot_of ws (b + i) ≡ slot_of vs (b + i)
      go true q ih = level-slots ws vs b c (ap (λ (l : Levels (suc k)). l.0) e) i (ltb-true i (c * m) q)
      go false q ih =
          let l : c * m ≤ i = ltb-false i (c * m) q in
          let at : b + c * m + (i - c * m) ≡ b + i = omega arith in
          subst (λ (n : ℕ). slot_of ws n ≡ slot_of vs n) at (ih (omega arith))

-- a word of a slot: one of its element's, or the count
slot-word : (ws vs : List ℕ) (i j : ℕ) → j < slot_words → slot_of ws i ≡ slot_of vs i → get_or ws (slot_words * i + j) 0 ≡ get_or vs (slot_words * i + j) 0
unfolding slot_of
slot-word ws vs i j h e = go (ltb j element_words) refl
  where
    go : (b : Bool) → ltb j element_words ≡ b → get_or ws (slot_words * i + j) 0 ≡ get_or vs (slot_words * i + j) 0
    go true l = element-words ws vs (slot_words * i) j (ltb-true j element_words l) (ap (λ (s : Slot). s.element) e)
    go false l =
        let at : j ≡ element_words = omega (arith, ltb-false j element_words l) in
        rw at (ap (λ (s : Slot). s.count) e)

-- the same levels are the same words, as far as the capacity goes
pub levels-words : (m k : ℕ) (ws vs : List ℕ) → levels_of m k ws 0 1 ≡ levels_of m k vs 0 1 → Agree (room m k) ws vs
levels-words m k ws vs e a lt =
    let d = place_of slot_words (room m k) a (omega arith) in
    let at : a ≡ slot_words * d.row + d.place = omega (arith, d.is) in
    let in_size : d.row < size m k 1 = omega (arith, d.in_rows, size_room m k 1) in
    let slot : slot_of ws d.row ≡ slot_of vs d.row = subst (λ (n : ℕ). slot_of ws n ≡ slot_of vs n) (zero-add d.row) (levels-slots m k ws vs 0 1 e d.row in_size) in
    rw at (slot-word ws vs d.row d.place d.in_row slot)

pub same-words : (m k : ℕ) (ws vs : List ℕ) → length ws ≡ length vs → levels_of m k ws 0 1 ≡ levels_of m k vs 0 1
    → ((a : ℕ) → slot_words * room m k ≤ a → get_or ws a 0 ≡ get_or vs a 0) → ws ≡ vs
same-words m k ws vs len e past = ext_get_or 0 ws vs len (λ a h. go a (ltb a (slot_words * room m k)) refl)
  where
    go : (a : ℕ) (t : Bool) → ltb a (slot_words * room m k) ≡ t → get_or ws a 0 ≡ get_or vs a 0
    go a false q = past a (ltb-false a (slot_words * room m k) q)
    go a true q = levels-words m k ws vs e a (ltb-true a (slot_words * room m k) q)

-- .. and the same words are the same slots, nodes and levels
pub words-slot : (n : ℕ) (ws vs : List ℕ) → Agree n ws vs → (i : ℕ) → i < n → slot_of ws i ≡ slot_of vs i
unfolding slot_of
words-slot n ws vs e i h = slot-path (read-local vs ws (slot_words * i) (λ p l r. e p (omega arith))) (e (slot_words * i + element_words) (omega arith))

pub words-levels : (m k n : ℕ) (ws vs : List ℕ) → Agree n ws vs → (b c : ℕ) → b + size m k c ≤ n → levels_of m k ws b c ≡ levels_of m k vs b c
unfolding levels_of size
words-levels m zero n ws vs e b c h = refl
words-levels m (suc k) n ws vs e b c h =
    ap₂ (λ (l : Level) (r : Levels k). (l, r)) (level-ext m ws vs b c (λ i l. words-slot n ws vs e i (omega arith))) (words-levels m k n ws vs e (b + c * m) (c * m) (omega arith))

pub words-node : (m n : ℕ) (ws vs : List ℕ) → Agree n ws vs → (i : ℕ) → i + m ≤ n → node_of m ws i ≡ node_of m vs i
unfolding node_of
words-node m n ws vs e i h = tab-ext m _ _ (λ j l. words-slot n ws vs e (i + j) (omega arith))
