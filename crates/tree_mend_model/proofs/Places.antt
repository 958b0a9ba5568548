-- The test of a slot is 02's sentence, part for part; and the numbering by the slice is that of levels and nodes.
use Rattle.laws.specs.Prelude.{Any, Bool, Fails, List, Means, [], ◌%◌, ◌*◌, ◌+◌, ◌-◌, ◌/◌, ◌<◌, ◌^◌, ◌||◌, ◌∙◌, ◌≡◌, ◌≤◌, ◌⊎◌, ap, ap₂, arith, cond, eqb, eqb-false, eqb-true, fails-every, false, false≢true, get_or, inl, inr, le_of_suc-le-suc, ltb, ltb-false, ltb-true, means-ltb, ne_eqb, not, not-suc-le-zero, refl, subst, suc, suc-mul, sum_to, sym, true, true≢false, zero, ℕ, ⊎_elim}
use native.Mathlib.Nat.{add-mul, div-add-mod', div-eq_of_lt-le, lt_of_mul-lt-mul_right, mod-lt, mul_comm, mul-add, one-mul, pow-succ', pow-zero}
use Rattle.promise.specs.Prelude.{blank-fails}
use Rattle.tree_model.proofs.Laws.{below_less, capacity, level-lies, level-node, node-slot, size_room}
use Rattle.tree_model.specs.Prelude.{Level, Levels, every, is_blank, is_empty, level_at, level_of, levels_of, node_of, room, size, slot_at, slot_of, sum_counts}
use Rattle.tree_model.specs.declared.Slot.{Slot}
use Rattle.tree_mend_model.specs.Check.{broken, broken_at, rank_above, under_of}
use Rattle.tree_mend_model.specs.Promise.{BrokenIn, broken_slot, Place, rank_over, slot_in, SlotBroken, under_in}
use Rattle.tree_mend_model.proofs.Descent.{room-step, under_same}

-- ---- one slot
means-or : (a b : Bool) {A B : Type 0} → Means a A → Means b B → Means (a || b) (A ⊎ B)
means-or true b p q = record { says = λ e. inl (p.says refl); holds = λ d. refl }
means-or false b p q = record { says = λ e. inr (q.says e); holds = λ d. ⊎_elim (λ x. absurd (false≢true (p.holds x))) (λ y. q.holds y) d }

means-fails : (a : Bool) {D : Type 0} → Fails a D → Means (not a) D
means-fails true p = record { says = λ e. absurd (false≢true e); holds = λ d. absurd (true≢false (p.shown d)) }
means-fails false p = record { says = λ e. p.found refl; holds = λ d. refl }

-- a branch on a number that is 0 or not
means-zero : (n : ℕ) (a b : Bool) {A B : Type 0} → Means a A → Means b B → Means (cond (eqb n 0) a b) (((n ≡ 0 → ⊥) × B) ⊎ ((n ≡ 0) × A))
means-zero n a b {A} {B} p q = go (eqb n 0) refl
  where
    go : (t : Bool) → eqb n 0 ≡ t → Means (cond t a b) (((n ≡ 0 → ⊥) × B) ⊎ ((n ≡ 0) × A))
    go true e = record { says = λ y. inr (eqb-true n 0 e, p.says y); holds = λ d. ⊎_elim (λ x. absurd (x.0 (eqb-true n 0 e))) (λ y. p.holds y.1) d }
    go false e = record { says = λ y. inl (eqb-false n 0 e, q.says y); holds = λ d. ⊎_elim (λ x. q.holds x.1) (λ y. absurd (eqb-false n 0 e y.0)) d }

fails-eqb : (a b : ℕ) → Fails (eqb a b) (a ≡ b → ⊥)
fails-eqb a b = record { found = λ e. eqb-false a b e; shown = λ h. ne_eqb a b h }

fails-empty : (nd : List Slot) → Fails (every is_empty nd) (Any (λ u. u.count ≡ 0 → ⊥) nd)
unfolding every is_empty
fails-empty nd = fails-every is_empty (every is_empty) refl (λ a l. refl) (λ u. fails-eqb u.count 0) nd

-- LETTER BY LETTER: the test says yes exactly where the sentence calls the slot broken
pub broken-means : (r : ℕ) (under : List Slot) (s : Slot) → Means (broken r under s) (SlotBroken r under s)
unfolding broken is_empty
broken-means r under s =
    means-zero s.count _ _
    (means-or (not (is_blank s.element)) (not (every is_empty under)) (means-fails (is_blank s.element) (blank-fails s.element)) (means-fails (every is_empty under) (fails-empty under)))
    (means-or (not (eqb s.count (suc (sum_counts under)))) (ltb s.element.rank.0 r) (means-fails (eqb s.count (suc (sum_counts under))) (fails-eqb s.count (suc (sum_counts under)))) (means-ltb s.element.rank.0 r))

-- ---- the numbering: level i, from 0, begins at slot room m i and has m ^ i nodes
no-level : (k : ℕ) (ls : Levels k) (i : ℕ) → k ≤ i → level_at k ls i ≡ []
unfolding level_at
no-level zero ls i h = refl
no-level (suc k) ls zero h = absurd (not-suc-le-zero h)
no-level (suc k) ls (suc i) h = no-level k ls.1 i (le_of_suc-le-suc h)

-- a level has the slots between two capacities
level-room : (m i : ℕ) → room m (suc i) ≡ room m i + m ^ suc i
unfolding room
level-room m zero = omega (arith, pow-succ' m 0, ap (λ (n : ℕ). m * n) (pow-zero m))
level-room m (suc i) = omega (arith, ap (λ (n : ℕ). m * n) (level-room m i), mul-add m (room m i) (m ^ suc i), pow-succ' m (suc i))

module _ (m : ℕ) (some : 0 < m) (ws : List ℕ) where
  abbrev stand : (k : ℕ) → Levels k
  stand k = levels_of m k ws 0 1

  level-is : (k i : ℕ) → i < k → level_at k (stand k) i ≡ level_of m ws (room m i) (m ^ i)
  level-is k i h =
      let at : 0 + size m i 1 ≡ room m i = omega (arith, size_room m i 1) in
      level-lies m k ws 0 1 i h ∙ ap₂ (level_of m ws) at (one-mul (m ^ i))

  slot_is : (k i n j : ℕ) → i < k → n < m ^ i → j < m → slot_in k (stand k) i n j ≡ slot_of ws (room m i + n * m + j)
  slot_is k i n j h l lt =
      ap (λ (v : Level). slot_at (get_or v n []) j) (level-is k i h) ∙ ap (λ (nd : List Slot). slot_at nd j) (level-node m ws (room m i) (m ^ i) n l)
      ∙ node-slot m ws (room m i + n * m) j lt

  -- under it
  next-node : (i n j : ℕ) → n < m ^ i → j < m → n * m + j < m ^ suc i
  next-node i n j l lt = omega (arith, below_less m n (m ^ i) j l lt, pow-succ' m i, mul_comm m (m ^ i))

  under-is : (b i n j : ℕ) → n < m ^ i → j < m → under_in m (suc (i + b)) (stand (suc (i + b))) i n j ≡ under_of m b ws (room m i + n * m + j)
  unfolding under_of
  under-is zero i n j l lt = ap (λ (v : Level). get_or v (n * m + j) []) (no-level (suc (i + 0)) (stand (suc (i + 0))) (suc i) (omega arith))
  under-is (suc b) i n j l lt =
      ap (λ (v : Level). get_or v (n * m + j) []) (level-is (suc (i + suc b)) (suc i) (omega arith))
      ∙ level-node m ws (room m (suc i)) (m ^ suc i) (n * m + j) (next-node i n j l lt)
      ∙ ap (node_of m ws) (omega (arith, room-step m i, add-mul (n * m) j m, suc-mul (room m i + n * m + j) m, add-mul (room m i + n * m) j m, add-mul (room m i) (n * m) m))

  -- above it
  node_over : (i n : ℕ) → n < m ^ suc i → n / m < m ^ i
  node_over i n l = lt_of_mul-lt-mul_right m (omega (arith, div-add-mod' n m, pow-succ' m i, mul_comm m (m ^ i)))

  rank_is : (k i n j : ℕ) → i < k → n < m ^ i → j < m → rank_over m k (stand k) i n ≡ rank_above ws ((room m i + n * m + j) / m)
  unfolding rank_above room
  rank_is k zero n j h l lt =
      let none : n ≡ 0 = omega (arith, pow-zero m) in
      ap (rank_above ws) (sym (div-eq_of_lt-le {k = 0} m (omega arith) (rw none (omega arith))))
  rank_is k (suc i) n j h l lt =
      let above : (room m (suc i) + n * m + j) / m ≡ suc (room m i + n) = div-eq_of_lt-le m (omega arith) (omega arith) in
      let here : room m i + n / m * m + n % m ≡ room m i + n = omega (arith, div-add-mod' n m) in
      ap (λ (s : Slot). s.element.rank.0) (slot_is k i (n / m) (n % m) (omega arith) (node_over i n l) (mod-lt n some))
      ∙ ap (λ (p : ℕ). (slot_of ws p).element.rank.0) here ∙ ap (rank_above ws) (sym above)

  -- a slot of the slice is broken where 02's sentence says so of its place
  here-broken : (b i n j : ℕ) → n < m ^ i → j < m
      → broken_slot m (suc (i + b)) ws (room m i + n * m + j)
      ≡ broken (rank_over m (suc (i + b)) (stand (suc (i + b))) i n) (under_in m (suc (i + b)) (stand (suc (i + b))) i n j) (slot_in (suc (i + b)) (stand (suc (i + b))) i n j)
  unfolding broken_at
  here-broken b i n j l lt =
      let in-level : room m i + n * m + j < room m (suc i) = omega (arith, level-room m i, next-node i n j l lt) in
      rw (rank_is (suc (i + b)) i n j (omega arith) l lt, under-is b i n j l lt, slot_is (suc (i + b)) i n j (omega arith) l lt, under_same m some ws b i (i + b) (room m i + n * m + j) refl (omega arith) in-level)

  -- BY PLACE: slot j of node n of level i
  pub broken-place : (levels i n j : ℕ) → i < levels → n < m ^ i → j < m
      → Means (broken_slot m levels ws (sum_to i (λ a. m ^ suc a) + n * m + j)) (BrokenIn m levels (levels_of m levels ws 0 1) i n j)
  broken-place levels i n j h l lt =
      let e : suc (i + (levels - suc i)) ≡ levels = omega arith in
      subst (λ (k : ℕ). Means (broken_slot m k ws (sum_to i (λ a. m ^ suc a) + n * m + j)) (BrokenIn m k (stand k) i n j)) e
      (at (suc (i + (levels - suc i))) (here-broken (levels - suc i) i n j l lt))
    where
      at : (k : ℕ) → broken_slot m k ws (room m i + n * m + j) ≡ broken (rank_over m k (stand k) i n) (under_in m k (stand k) i n j) (slot_in k (stand k) i n j)
          → Means (broken_slot m k ws (sum_to i (λ a. m ^ suc a) + n * m + j)) (BrokenIn m k (stand k) i n j)
      at k p =
          subst (λ (t : Bool). Means t (BrokenIn m k (stand k) i n j)) (sym p ∙ ap (λ (r : ℕ). broken_slot m k ws (r + n * m + j)) (capacity m i))
          (broken-means (rank_over m k (stand k) i n) (under_in m k (stand k) i n j) (slot_in k (stand k) i n j))

-- EVERY slot of the slice has its place
level-place : (m : ℕ) → 0 < m → (k p : ℕ) → room m k ≤ p → p < room m (suc k) → Place m (suc k) p
level-place m some k p le lt =
    let q : ℕ = p - room m k in
    let d : q / m * m + q % m ≡ q = div-add-mod' q m in
    record {
      level = k;
      node = q / m;
      slot = q % m;
      in-levels = omega arith;
      in-level = lt_of_mul-lt-mul_right m (omega (arith, d, level-room m k, pow-succ' m k, mul_comm m (m ^ k)));
      in-node = mod-lt q some;
      is = omega (arith, d, capacity m k);
    }

pub every-place : (m : ℕ) → 0 < m → (levels p : ℕ) → p < room m levels → Place m levels p
unfolding room
every-place m some zero p h = absurd (not-suc-le-zero h)
every-place m some (suc k) p h = go (ltb p (room m k)) refl (λ l. every-place m some k p l)
  where
    go : (b : Bool) → ltb p (room m k) ≡ b → (p < room m k → Place m k p) → Place m (suc k) p
    go true e ih =
        let at : Place m k p = ih (ltb-true p (room m k) e) in
        record {
          level = at.level;
          node = at.node;
          slot = at.slot;
          in-levels = omega (arith, at.in-levels);
          in-level = at.in-level;
          in-node = at.in-node;
          is = at.is;
        }
    go false e ih = level-place m some k p (ltb-false p (room m k) e) h
