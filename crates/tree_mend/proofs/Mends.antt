-- The mender's loop over the slots.
use Rattle.std.specs.Prelude.{Err, Ok}
use Rattle.laws.specs.Prelude.{Answer, BadShape, Bool, List, Push, ◌&&◌, ◌+◌, ◌-◌, ◌<◌, ◌^◌, ◌∙◌, ◌∷◌, ◌≡◌, ◌≤◌, add-one, ap, ap₂, arith, cond, eq-eqb, false, length, ne_eqb, not, not-false, not-suc-le-zero, not-true, refl, subst, suc, sym, true, untagged, zero, ℕ}
use Rattle.tree_model.specs.Prelude.{Outcome, Shape, called, cleared, is_empty, outcome, room, shape_ok, slot_of, start, tree_queue}
use Rattle.promise.specs.Prelude.{hit, leaves}
use Rattle.tree_model.proofs.Laws.{shape_is}
use Rattle.tree_model.specs.declared.Slot.{Slot}
use Rattle.tree_mend.proofs.Settles.{Filled, filled_more, filled_none, push-settles}
use Rattle.tree_mend.proofs.Shapes.{shape-lies}
use Rattle.tree_mend.specs.Lie.{SlotsLie}
use Rattle.tree_mend.specs.Settle.{Cleared, Mendable, settled, settled_if, Settles}
use Rattle.tree_mend_model.proofs.Laws.{has-tag}
use Rattle.tree_mend_model.specs.Mend.{keeps, mended, mended_as, mend_slot, pushes, skipped, skips}

-- ---- one slot
module _ (m p s : ℕ) (a : Slot) (to : List ℕ) where
  -- what its part leaves of both numbers and of the words
  abbrev pub Part : ℕ → ℕ → List ℕ → Type 0
  Part p' s' v = ((p' ≡ p + hit (keeps a)) × (s' ≡ s + hit (skips a))) × ((k : ℕ) → p < room m (suc k) → v ≡ settled_if m k p a to)

  pub slot-none : a.count ≡ 0 → Part p s to
  unfolding skips keeps is_empty settled_if
  slot-none e = rw (eq-eqb a.count 0 e) ((omega arith, omega arith), λ k d. refl)

  module _ (ne : a.count ≡ 0 → ⊥) (t : Bool) (tag : t ≡ untagged a.element) where
    pub slot-skips : t ≡ true → Part p (s + 1) to
    unfolding skips keeps is_empty settled_if
    slot-skips e = rw (ne_eqb a.count 0 ne, ← tag, e) ((omega arith, refl), λ k d. refl)

    pub slot-settles : t ≡ false → (v : List ℕ) → ((k : ℕ) → p < room m (suc k) → v ≡ settled m k 0 p a.element to) → Part (p + 1) s v
    unfolding skips keeps is_empty settled_if
    slot-settles e v w = rw (ne_eqb a.count 0 ne, ← tag, e) ((refl, omega arith), w)

-- .. which is its push, and fills the store by that
slot_step : (m k p : ℕ) (a : Slot) (to v : List ℕ) → Filled m k to p → p < room m (suc k) → v ≡ settled_if m k p a to → (v ≡ mend_slot m (suc k) a to) × Filled m k v (p + hit (keeps a))
unfolding settled_if mend_slot
slot_step m k p a to v f d e = go (keeps a) refl e
  where
    go : (b : Bool) → keeps a ≡ b → v ≡ cond b (settled m k 0 p a.element to) to → (v ≡ cond b (called m (suc k) (Push a.element) to).words to) × Filled m k v (p + hit b)
    go true kept w =
        let t : untagged a.element ≡ false = has-tag a kept in
        let c : v ≡ (called m (suc k) (Push a.element) to).words = w ∙ sym (push-settles m k p a.element t to f d) in
        (c, subst (λ (u : List ℕ). Filled m k u (p + 1)) (sym c) (filled_more m k p a.element t to f d))
    go false kept w = let z : p ≡ p + 0 = omega arith in (w, subst (λ (u : List ℕ). Filled m k u (p + 0)) (sym w) (subst (Filled m k to) z f))

-- ---- the slots one after the other: what is left to do makes the whole
pub record Mending (m k : ℕ) (ws to₀ : List ℕ) (slots : ℕ) (to : List ℕ) (p n i : ℕ) : Type 0 where
  pub upto : i ≤ slots
  pub few : p + n ≤ i
  pub same : length to ≡ length to₀
  pub words : leaves (tree_queue m (suc k)) (pushes ws i (slots - i)) to ≡ leaves (tree_queue m (suc k)) (pushes ws 0 slots) to₀
  pub count : n + skipped ws i (slots - i) ≡ skipped ws 0 slots
  pub filled : Filled m k to p

hit-one : (b : Bool) → hit b ≤ 1
hit-one true = omega arith
hit-one false = omega arith

-- a slot is taken over or skipped, not both
hit-either : (a : Slot) → hit (keeps a) + hit (skips a) ≤ 1
unfolding keeps skips
hit-either a = go (is_empty a) (untagged a.element)
  where
    go : (e t : Bool) → hit (not e && not t) + hit (not e && t) ≤ 1
    go true t = omega arith
    go false true = omega arith
    go false false = omega arith

module _ (m k : ℕ) (ws : List ℕ) where
  pub mend-begins : (to : List ℕ) (slots : ℕ) → Cleared m (suc k) to → Mending m k ws to slots to 0 0 0
  mend-begins to slots c =
      let z : slots - 0 ≡ slots = omega arith in
      record {
        upto = omega arith;
        few = omega arith;
        same = refl;
        words = ap (λ (n : ℕ). leaves (tree_queue m (suc k)) (pushes ws 0 n) to) z;
        count = omega (arith, ap (skipped ws 0) z);
        filled = filled_none m k c.before to c.shape c.clear;
      }

  leaves-step : (i n : ℕ) (to : List ℕ) → leaves (tree_queue m (suc k)) (pushes ws i (suc n)) to ≡ leaves (tree_queue m (suc k)) (pushes ws (i + 1) n) (mend_slot m (suc k) (slot_of ws i) to)
  unfolding pushes leaves mend_slot
  leaves-step i n to = rw (add-one i) (go (keeps (slot_of ws i)))
    where
      go : (b : Bool) → leaves (tree_queue m (suc k)) (cond b (Push (slot_of ws i).element ∷ pushes ws (suc i) n) (pushes ws (suc i) n)) to
          ≡ leaves (tree_queue m (suc k)) (pushes ws (suc i) n) (cond b (called m (suc k) (Push (slot_of ws i).element) to).words to)
      go true = refl
      go false = refl

  skipped-step : (i n : ℕ) → skipped ws i (suc n) ≡ hit (skips (slot_of ws i)) + skipped ws (i + 1) n
  unfolding skipped
  skipped-step i n = rw (add-one i)

  module _ (to₀ : List ℕ) (slots : ℕ) (to : List ℕ) (p n i : ℕ) (g : Mending m k ws to₀ slots to p n i) (h : i < slots) (all : slots ≡ room m (suc k)) where
    pub mend-deep : p < room m (suc k)
    mend-deep = omega (arith, g.few)

    -- what the slot's part asks
    pub mend-asks : (power : ℕ) → (m ≡ 2 ^ power) × (power < 64) → Settles m power p to
    mend-asks power e = record { power = e.0; narrow = e.1; below = k; lies = shape-lies m (suc k) to g.filled.kept.shape; deep = mend-deep }

    pub mend-goes : (a : Slot) → a ≡ slot_of ws i → (p' n' : ℕ) (to' : List ℕ) → Part m p n a to p' n' to' → length to' ≡ length to → Mending m k ws to₀ slots to' p' n' (i + 1)
    mend-goes a e p' n' to' d same =
        let z : slots - i ≡ suc (slots - (i + 1)) = omega arith in
        let step = slot_step m k p a to to' g.filled mend-deep (d.1 k mend-deep) in
        let w : to' ≡ mend_slot m (suc k) (slot_of ws i) to = step.0 ∙ ap (λ (s : Slot). mend_slot m (suc k) s to) e in
        let v : n' ≡ n + hit (skips (slot_of ws i)) = d.0.1 ∙ ap (λ (s : Slot). n + hit (skips s)) e in
        record {
          upto = omega arith;
          few = omega (arith, g.few, d.0.0, d.0.1, hit-either a);
          same = same ∙ g.same;
          words = ap (leaves (tree_queue m (suc k)) (pushes ws (i + 1) (slots - (i + 1)))) w
              ∙ sym (ap (λ (n : ℕ). leaves (tree_queue m (suc k)) (pushes ws i n) to) z ∙ leaves-step i (slots - (i + 1)) to) ∙ g.words;
          count = omega (arith, g.count, ap (skipped ws i) z, skipped-step i (slots - (i + 1)));
          filled = subst (Filled m k to') (sym d.0.0) step.1;
        }

  pub mend-ends : (to₀ : List ℕ) (slots : ℕ) (to : List ℕ) (p n i : ℕ) → Mending m k ws to₀ slots to p n i → slots ≤ i
      → (n ≡ skipped ws 0 slots) × (to ≡ leaves (tree_queue m (suc k)) (pushes ws 0 slots) to₀)
  unfolding pushes skipped leaves
  mend-ends to₀ slots to p n i g h =
      let z : slots - i ≡ 0 = omega arith in (
        omega (arith, g.count, ap (skipped ws i) z),
        sym (ap (λ (n : ℕ). leaves (tree_queue m (suc k)) (pushes ws i n) to) z) ∙ g.words,
      )

skipped-few : (ws : List ℕ) (n i : ℕ) → skipped ws i n ≤ n
unfolding skipped
skipped-few ws zero i = omega arith
skipped-few ws (suc n) i = omega (arith, hit-one (skips (slot_of ws i)), skipped-few ws n (suc i))

-- the number of those skipped fits a word
pub skipped-small : (ws : List ℕ) (slots r : ℕ) → SlotsLie slots ws → r ≡ skipped ws 0 slots → r < 4294967296
skipped-small ws slots r l e = omega (arith, skipped-few ws slots 0, l.limit)

-- ---- the call
-- there is a level, and the store that clear left is one of that shape
able : (m levels : ℕ) (ws to : List ℕ) → Shape m levels (length to) → (slots : ℕ) → slots ≡ room m levels → SlotsLie slots ws → (to₀ : List ℕ) → to₀ ≡ start m levels to → Mendable m slots ws to₀
able m zero ws to sh slots s l to₀ c = absurd (not-suc-le-zero sh.some)
able m (suc k) ws to sh slots s l to₀ c = record { lies = l; below = k; slots = s; cleared = record { before = to; shape = sh; clear = c } }

made : (m levels : ℕ) (ws to : List ℕ) → Shape m levels (length to) → (slots : ℕ) → slots ≡ room m levels → (to₀ v : List ℕ) → to₀ ≡ start m levels to
    → ((k : ℕ) → Cleared m (suc k) to₀ → slots ≡ room m (suc k) → v ≡ leaves (tree_queue m (suc k)) (pushes ws 0 slots) to₀) → v ≡ leaves (tree_queue m levels) (pushes ws 0 slots) to₀
made m zero ws to sh slots s to₀ v c d = absurd (not-suc-le-zero sh.some)
made m (suc k) ws to sh slots s to₀ v c d = d k (record { before = to; shape = sh; clear = c }) s

module _ (m levels : ℕ) (ws to : List ℕ) (t : Bool) (first : t ≡ shape_ok m levels (length ws)) where
  pub mend-first : not t ≡ true → mended_as (Err BadShape) to ≡ mended m levels ws to
  unfolding mended
  mend-first p = rw (← first, not-true t p)

  module _ (yes : not t ≡ false) (u : Bool) (second : u ≡ shape_ok m levels (length to)) where
    pub mend-second : not u ≡ true → mended_as (Err BadShape) to ≡ mended m levels ws to
    unfolding mended
    mend-second p = rw (← first, not-false t yes, ← second, not-true u p)

    shape : not u ≡ false → Shape m levels (length to)
    shape p = shape_is m levels (length to) (sym second ∙ not-false u p)

    -- the store that clear left
    pub mend-able : not u ≡ false → (slots : ℕ) → slots ≡ room m levels → SlotsLie slots ws → (r : Answer) (to₀ : List ℕ) → outcome r to₀ ≡ cleared m levels to → Mendable m slots ws to₀
    mend-able p slots s l r to₀ c = able m levels ws to (shape p) slots s l to₀ (ap (λ (o : Outcome). o.words) c)

    pub mend-done : (p : not u ≡ false) (slots : ℕ) → slots ≡ room m levels → (r : Answer) (to₀ : List ℕ) → outcome r to₀ ≡ cleared m levels to
        → (n : ℕ) (v : List ℕ) → (n ≡ skipped ws 0 slots) × ((k : ℕ) → Cleared m (suc k) to₀ → slots ≡ room m (suc k) → v ≡ leaves (tree_queue m (suc k)) (pushes ws 0 slots) to₀)
        → mended_as (Ok n) v ≡ mended m levels ws to
    unfolding mended
    mend-done p slots s r to₀ c n v d =
        let w : v ≡ leaves (tree_queue m levels) (pushes ws 0 (room m levels)) (cleared m levels to).words =
        made m levels ws to (shape p) slots s to₀ v (ap (λ (o : Outcome). o.words) c) d.1
        ∙ ap₂ (λ (n : ℕ) (w : List ℕ). leaves (tree_queue m levels) (pushes ws 0 n) w) s (ap (λ (o : Outcome). o.words) c) in
        let k : n ≡ skipped ws 0 (room m levels) = d.0 ∙ ap (skipped ws 0) s in
        rw (← first, not-false t yes, ← second, not-false u p, w, k)
