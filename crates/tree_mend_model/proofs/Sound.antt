-- A store passes the check exactly where the tree of its levels is sound.
use Rattle.laws.specs.Prelude.{All, Bool, List, [], ◌*◌, ◌+◌, ◌-◌, ◌<◌, ◌||◌, ◌∙◌, ◌∷◌, ◌≡◌, ◌≤◌, and_left, and_right, and-true, ap, arith, blank, cond, eq-eqb, eqb, eqb-true, false, le_of_suc-le-suc, ltb, ltb-false, ne_eqb, not, not-false, not-suc-le-zero, not-true, refl, subst, suc, suc-mul, sum-zero, sum_of, sym, true, true≢false, zero, ℕ}
use native.Mathlib.Nat.{add-mul}
use Rattle.strip.proofs.Words.{blank-is, blank-says}
use Rattle.tree_model.specs.declared.Slot.{Slot}
use Rattle.tree_model.specs.Prelude.{Fit, Sound, Tree, every, hang, held, is_blank, is_empty, levels_of, many, node_of, nothing, own, slot_of, slots, something, sum_counts, tabulate, tree_of, vacant}
use Rattle.promise.specs.Prelude.{hit, lower}
use Rattle.tree_model.proofs.Laws.{below_less, fit-lower, length-hang, length-tab, level-node, many-held, no-sum, own-suc, slot-path, slots-hang, some-sum, sum-counts}
use Rattle.tree_mend_model.specs.Check.{broken, node_whole, slot_whole, under_of}
use Rattle.tree_mend_model.proofs.Descent.{all-each, each_all}

-- ---- lists
pub empty-sum : (nd : List Slot) → eqb (sum_counts nd) 0 ≡ every is_empty nd
empty-sum nd = go (every is_empty nd) refl
  where
    go : (b : Bool) → every is_empty nd ≡ b → eqb (sum_counts nd) 0 ≡ b
    go true e = eq-eqb (sum_counts nd) 0 (no-sum nd e)
    go false e = ne_eqb (sum_counts nd) 0 (λ z. omega (arith, some-sum nd e))

pub zero-all : {A : Type 0} (g : A → ℕ) (l : List A) → sum_of g l ≡ 0 → All (λ a. g a ≡ 0) l
unfolding sum_of
zero-all g [] e = tt
zero-all g (a ∷ l) e = (omega arith, zero-all g l (omega arith))

module _ {T : Type 0} (P : Slot × T → Type 0) where
  all-hang : (n : ℕ) (f : ℕ → Slot) (g : ℕ → T) → ((j : ℕ) → j < n → P (f j, g j)) → All P (hang (tabulate n f) g)
  unfolding hang tabulate
  all-hang zero f g h = tt
  all-hang (suc n) f g h = (h 0 (omega arith), all-hang n (λ j. f (suc j)) (λ j. g (suc j)) (λ j l. h (suc j) (omega arith)))

  hang-all : (n : ℕ) (f : ℕ → Slot) (g : ℕ → T) → All P (hang (tabulate n f) g) → (j : ℕ) → j < n → P (f j, g j)
  unfolding hang tabulate
  hang-all zero f g h j l = absurd (not-suc-le-zero l)
  hang-all (suc n) f g h zero l = h.0
  hang-all (suc n) f g h (suc j) l = hang-all n (λ j. f (suc j)) (λ j. g (suc j)) h.1 j (le_of_suc-le-suc l)

-- ---- one slot: not broken, with what is under it
slot-zero : (s : Slot) → s.count ≡ 0 → is_blank s.element ≡ true → s ≡ vacant
unfolding vacant
slot-zero s e b = slot-path (blank-is s.element (blank-says s.element b)) e

or_left : (a b : Bool) → (a || b) ≡ false → a ≡ false
or_left true b e = absurd (true≢false e)
or_left false b e = refl

or_right : (a b : Bool) → (a || b) ≡ false → b ≡ false
or_right true b e = absurd (true≢false e)
or_right false b e = e

pub record Held (k : ℕ) (r : ℕ) (s : Slot) (t : Tree k) : Type 0 where
  pub fit : Fit k s t
  pub least : 0 < s.count → r ≤ s.element.rank.0

-- a slot that is not broken fits what is under it
pub whole-fit : (k r : ℕ) (s : Slot) (t : Tree k) (nd : List Slot) → held k t ≡ sum_counts nd → many (lower s.element.rank.0) k t ≡ 0 → broken r nd s ≡ false → Held k r s t
unfolding broken is_empty
whole-fit k r s t nd h z e = go (eqb s.count 0) refl e
  where
    go : (b : Bool) → eqb s.count 0 ≡ b
        → cond b (not (is_blank s.element) || not (every is_empty nd)) (not (eqb s.count (suc (sum_counts nd))) || ltb s.element.rank.0 r) ≡ false → Held k r s t
    go true p e =
        let c : s.count ≡ 0 = eqb-true s.count 0 p in
        let n : every is_empty nd ≡ true = not-false (every is_empty nd) (or_right (not (is_blank s.element)) (not (every is_empty nd)) e) in
        record {
          fit = nothing (slot-zero s c (not-false (is_blank s.element) (or_left (not (is_blank s.element)) (not (every is_empty nd)) e))) (h ∙ no-sum nd n);
          least = λ l. absurd (omega arith);
        }
    go false p e =
        let c : s.count ≡ suc (sum_counts nd) = eqb-true s.count (suc (sum_counts nd)) (not-false (eqb s.count (suc (sum_counts nd))) (or_left (not (eqb s.count (suc (sum_counts nd)))) (ltb s.element.rank.0 r) e)) in
        record {
          fit = something (omega arith) z;
          least = λ l. ltb-false s.element.rank.0 r (or_right (not (eqb s.count (suc (sum_counts nd)))) (ltb s.element.rank.0 r) e);
        }

-- .. and one that fits is not broken
pub fit-whole : (k r : ℕ) (s : Slot) (t : Tree k) (nd : List Slot) → held k t ≡ sum_counts nd → Fit k s t → own (lower r) s ≡ 0 → broken r nd s ≡ false
unfolding broken is_empty is_blank vacant blank
fit-whole k r s t nd h (nothing e z) o =
    ap (broken r nd) e ∙ ap not (sym (empty-sum nd) ∙ eq-eqb (sum_counts nd) 0 (sym h ∙ z))
fit-whole k r s t nd h (something c z) o =
    let c' : s.count ≡ suc (sum_counts nd) = omega arith in
    let l : ltb s.element.rank.0 r ≡ false = miss (ltb s.element.rank.0 r) (sym (own-suc (lower r) s (held k t) c) ∙ o) in
    rw (ne_eqb s.count 0 (λ e. omega arith), eq-eqb s.count (suc (sum_counts nd)) c', l)
  where
    miss : (b : Bool) → hit b ≡ 0 → b ≡ false
    miss true e = absurd (omega arith)
    miss false e = refl

-- what fits has nothing of a lower rank under it
fit-least : (k : ℕ) (s : Slot) (t : Tree k) → Fit k s t → many (lower s.element.rank.0) k t ≡ 0
fit-least k s t (nothing e h) = omega (arith, many-held (lower s.element.rank.0) k t)
fit-least k s t (something c u) = u

-- ---- trees of the words: node q is node n of the level of c nodes that begins at slot b
pub record Here (m b c n q : ℕ) : Type 0 where
  pub base : b + c * m ≡ suc b * m
  pub node : b + n * m ≡ q * m
  pub inside : n < c

pub root-here : (m : ℕ) → Here m 0 1 0 0
root-here m = record { base = omega arith; node = omega arith; inside = omega arith }

-- the node under slot q * m + j: "Slot j of node n has below it node n_m+j of the next level"
pub child-here : (m b c n q j : ℕ) → Here m b c n q → j < m → Here m (b + c * m) (c * m) (n * m + j) (suc (q * m + j))
child-here m b c n q j h l =
    let e : (b + c * m) * m ≡ suc b * m * m = ap (λ (x : ℕ). x * m) h.base in
    let f : (b + n * m) * m ≡ q * m * m = ap (λ (x : ℕ). x * m) h.node in
    record {
      base = omega (arith, h.base, suc-mul (b + c * m) m, add-mul b (c * m) m, suc-mul b m);
      node = omega (arith, h.base, suc-mul b m, suc-mul (q * m + j) m, add-mul (q * m) j m, add-mul (n * m) j m, add-mul b (n * m) m);
      inside = below_less m n c j h.inside l;
    }

-- the slots of node q, with k levels from there
node_at : ℕ → ℕ → List ℕ → ℕ → List Slot
node_at m zero ws q = []
node_at m (suc k) ws q = node_of m ws (q * m)

under-node : (m k : ℕ) (ws : List ℕ) (p : ℕ) → under_of m k ws p ≡ node_at m k ws (suc p)
unfolding under_of node_at
under-node m zero ws p = refl
under-node m (suc k) ws p = refl

module _ (m : ℕ) (ws : List ℕ) where
  abbrev pub tree : (k b c n : ℕ) → Tree k
  tree k b c n = tree_of m k (levels_of m k ws b c) n

  -- the trees under the slots of a node
  abbrev pub kids : (k b c n : ℕ) → ℕ → Tree k
  kids k b c n j = tree_of m k (levels_of m k ws (b + c * m) (c * m)) (n * m + j)

  pub tree_is : (k b c n q : ℕ) → Here m b c n q → tree (suc k) b c n ≡ hang (tabulate m (λ j. slot_of ws (q * m + j))) (kids k b c n)
  unfolding tree_of levels_of node_of
  tree_is k b c n q h = ap (λ (nd : List Slot). hang nd (kids k b c n)) (level-node m ws b c n h.inside ∙ ap (λ (i : ℕ). node_of m ws i) h.node)

  pub node-slots : (k b c n q : ℕ) → slots k (hang (tabulate m (λ j. slot_of ws (q * m + j))) (kids k b c n)) ≡ node_of m ws (q * m)
  unfolding slots node_of
  node-slots k b c n q = slots-hang (tabulate m (λ j. slot_of ws (q * m + j))) (kids k b c n)

  -- a sound tree holds what its node's counts say
  held-node : (k b c n q : ℕ) → Here m b c n q → Sound m k (tree k b c n) → held k (tree k b c n) ≡ sum_counts (node_at m k ws q)
  unfolding node_at sum_counts many
  held-node zero b c n q h s = refl
  held-node (suc k) b c n q h s =
      sym (sum-counts m k (tree (suc k) b c n) s.1) ∙ ap (λ (t : Tree (suc k)). sum_counts (slots k t)) (tree_is k b c n q h) ∙ ap sum_counts (node-slots k b c n q)

  -- what is under slot p
  held-under : (k b c n p : ℕ) → Here m b c n (suc p) → Sound m k (tree k b c n) → held k (tree k b c n) ≡ sum_counts (under_of m k ws p)
  held-under k b c n p h s = held-node k b c n (suc p) h s ∙ ap sum_counts (sym (under-node m k ws p))

  abbrev Sounds : ℕ → Type 0
  Sounds k = (b c n q r : ℕ) → Here m b c n q → node_whole m k ws q r ≡ true → Sound m k (tree k b c n) × (many (lower r) k (tree k b c n) ≡ 0)

  place-sound : (k b c n q r : ℕ) → Here m b c n q → node_whole m (suc k) ws q r ≡ true → Sounds k → (j : ℕ) → j < m
      → Sound m k (kids k b c n j) × Held k r (slot_of ws (q * m + j)) (kids k b c n j)
  unfolding node_whole
  place-sound k b c n q r h e ih j l =
      let p : ℕ = q * m + j in
      let s : Slot = slot_of ws p in
      let t : slot_whole m k ws r p ≡ true = each_all _ (q * m) m e p (omega arith) (omega arith) in
      let h' : Here m (b + c * m) (c * m) (n * m + j) (suc p) = child-here m b c n q j h l in
      let i = ih (b + c * m) (c * m) (n * m + j) (suc p) s.element.rank.0 h' (and_right (not (broken r (under_of m k ws p) s)) _ t) in (
        i.0,
        whole-fit k r s (kids k b c n j) (under_of m k ws p) (held-under k (b + c * m) (c * m) (n * m + j) p h' i.0) i.1
            (not-true (broken r (under_of m k ws p) s) (and_left (not (broken r (under_of m k ws p) s)) _ t)),
      )

  -- what the descent has passed is sound, and nothing in it has a rank below r
  pub whole-sound : (k : ℕ) → Sounds k
  unfolding many
  whole-sound zero b c n q r h e = (tt, refl)
  whole-sound (suc k) b c n q r h e =
      let f : ℕ → Slot = λ j. slot_of ws (q * m + j) in
      let g : ℕ → Tree k = kids k b c n in
      let place = place-sound k b c n q r h e (whole-sound k) in
      subst (λ (t : Tree (suc k)). Sound m (suc k) t × (many (lower r) (suc k) t ≡ 0)) (sym (tree_is k b c n q h)) (
        (length-hang (tabulate m f) g ∙ length-tab m f, all-hang _ m f g (λ j l. ((place j l).0, (place j l).1.fit))),
        sum-zero _ (hang (tabulate m f) g) (all-hang _ m f g (λ j l. fit-lower k r (f j) (g j) (place j l).1.fit (place j l).1.least)),
      )

  abbrev Wholes : ℕ → Type 0
  Wholes k = (b c n q r : ℕ) → Here m b c n q → Sound m k (tree k b c n) → many (lower r) k (tree k b c n) ≡ 0 → node_whole m k ws q r ≡ true

  place-whole : (k b c n q r : ℕ) → Here m b c n q → Wholes k → (j : ℕ) → j < m → Sound m k (kids k b c n j) → Fit k (slot_of ws (q * m + j)) (kids k b c n j)
      → own (lower r) (slot_of ws (q * m + j)) + many (lower r) k (kids k b c n j) ≡ 0 → slot_whole m k ws r (q * m + j) ≡ true
  place-whole k b c n q r h ih j l so fit z =
      let p : ℕ = q * m + j in
      let s : Slot = slot_of ws p in
      let h' : Here m (b + c * m) (c * m) (n * m + j) (suc p) = child-here m b c n q j h l in
      and-true (not (broken r (under_of m k ws p) s)) (node_whole m k ws (suc p) s.element.rank.0)
      (ap not (fit-whole k r s (kids k b c n j) (under_of m k ws p) (held-under k (b + c * m) (c * m) (n * m + j) p h' so) fit (omega arith)))
      (ih (b + c * m) (c * m) (n * m + j) (suc p) s.element.rank.0 h' so (fit-least k s (kids k b c n j) fit))

  -- .. and what is sound passes the descent
  pub sound-whole : (k : ℕ) → Wholes k
  unfolding node_whole many
  sound-whole zero b c n q r h s z = refl
  sound-whole (suc k) b c n q r h s z =
      let f : ℕ → Slot = λ j. slot_of ws (q * m + j) in
      let g : ℕ → Tree k = kids k b c n in
      let s' : Sound m (suc k) (hang (tabulate m f) g) = subst (λ (t : Tree (suc k)). Sound m (suc k) t) (tree_is k b c n q h) s in
      let z' : many (lower r) (suc k) (hang (tabulate m f) g) ≡ 0 = subst (λ (t : Tree (suc k)). many (lower r) (suc k) t ≡ 0) (tree_is k b c n q h) z in
      let a = hang-all _ m f g s'.1 in
      let o = hang-all _ m f g (zero-all _ (hang (tabulate m f) g) z') in
      all-each _ (q * m) m (λ p le lt.
      let e : q * m + (p - q * m) ≡ p = omega arith in
      let l : p - q * m < m = omega arith in
      subst (λ (p : ℕ). slot_whole m k ws r p ≡ true) e
      (place-whole k b c n q r h (sound-whole k) (p - q * m) l (a (p - q * m) l).0 (a (p - q * m) l).1 (o (p - q * m) l)))
