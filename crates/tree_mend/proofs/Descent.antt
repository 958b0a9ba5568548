-- The check by descent: what a node's loop and a slot's calls make together.
use Rattle.std.specs.Prelude.{Err, Ok}
use Rattle.laws.specs.Prelude.{BadShape, Bool, List, ◌*◌, ◌+◌, ◌-◌, ◌<◌, ◌∙◌, ◌≡◌, ◌≤◌, add-one, ap, ap₂, arith, false, length, lt-ltb, ltb, ltb-true, mul-le-mul_right, not, not-false, not-suc-le-zero, not-true, refl, subst, suc, sym, true, zero, ℕ}
use Rattle.tree_model.specs.Prelude.{room, shape_ok, slot_limit, slot_of, slot_words}
use Rattle.tree_model.specs.declared.Slot.{Slot}
use Rattle.tree_mend_model.proofs.Laws.{room-grows, room-step}
use Rattle.tree_mend_model.specs.Check.{broken, descended, each, node_whole, slot_whole, under_of}
use Rattle.tree_mend.specs.Lie.{NodeLies, SlotIn, SlotLies, under_if}

-- ---- where nodes and slots lie
node_end : (m k q : ℕ) (ws : List ℕ) → (l : NodeLies m (suc k) q ws) → (q * m + m ≤ room m (suc l.depth)) × (room m (suc l.depth) ≤ room m (l.depth + suc k))
node_end m k q ws l =
    let e : suc l.depth + k ≡ l.depth + suc k = omega arith in (
      omega (arith, room-step m l.depth, mul-le-mul_right m l.node),
      subst (λ (n : ℕ). room m (suc l.depth) ≤ room m n) e (room-grows m (suc l.depth) k l.order),
    )

pub node-fits : (m left q : ℕ) (ws : List ℕ) → NodeLies m left q ws → (left ≡ 0 → ⊥) → q * m + m ≤ slot_limit
node-fits m zero q ws l ne = absurd (ne refl)
node-fits m (suc k) q ws l ne = omega (arith, (node_end m k q ws l).0, (node_end m k q ws l).1, l.limit)

pub slot-lies : (m left q p : ℕ) (ws : List ℕ) → NodeLies m left q ws → (left ≡ 0 → ⊥) → p < q * m + m → SlotLies m (left - 1) p ws
slot-lies m zero q p ws l ne h = absurd (ne refl)
slot-lies m (suc k) q p ws l ne h =
    let e : l.depth + suc k ≡ suc l.depth + (suc k - 1) = omega arith in
    record {
      order = l.order;
      few = l.few;
      depth = suc l.depth;
      slot = omega (arith, (node_end m k q ws l).0);
      limit = subst (λ (n : ℕ). room m n ≤ slot_limit) e l.limit;
      words = subst (λ (n : ℕ). slot_words * room m n ≤ length ws) e l.words;
    }

pub slot-inside : (m k p : ℕ) (ws : List ℕ) → SlotLies m k p ws → (p + 1 ≤ slot_limit) × (slot_words * (p + 1) ≤ length ws)
slot-inside m k p ws l =
    let g : room m l.depth ≤ room m (l.depth + k) = room-grows m l.depth k l.order in (
      omega (arith, l.slot, l.limit),
      omega (arith, l.slot, l.words),
    )

pub slot-in : (m k p : ℕ) (ws : List ℕ) → SlotLies m k p ws → SlotIn m p (ltb 0 k) ws
slot-in m k p ws l =
    let i = slot-inside m k p ws l in
    record { order = l.order; few = l.few; small = omega (arith, i.0); slot = omega (arith, i.1); under = λ e. below k l (ltb-true 0 k e) }
  where
    below : (k : ℕ) → SlotLies m k p ws → 0 < k → slot_words * (suc p * m + m) ≤ length ws
    below zero l h = absurd (not-suc-le-zero h)
    below (suc k) l h =
        let e : suc l.depth + k ≡ l.depth + suc k = omega arith in
        let g : room m (suc l.depth) ≤ room m (l.depth + suc k) = subst (λ (n : ℕ). room m (suc l.depth) ≤ room m n) e (room-grows m (suc l.depth) k l.order) in
        omega (arith, room-step m l.depth, mul-le-mul_right m l.slot, l.words)

pub node-lies : (m k p : ℕ) (ws : List ℕ) → SlotLies m k p ws → NodeLies m k (p + 1) ws
node-lies m k p ws l = record { order = l.order; few = l.few; depth = l.depth; node = omega (arith, l.slot); limit = l.limit; words = l.words }

-- ---- a node: its slots one after the other
-- what is left of the node from slot p on answers for the whole
pub record AtPlace (m left q above : ℕ) (ws : List ℕ) (end p : ℕ) : Type 0 where
  pub upto : p ≤ end
  pub rest : each (slot_whole m (left - 1) ws above) p (end - p) ≡ node_whole m left ws q above

module _ (m q above : ℕ) (ws : List ℕ) where
  pub node-none : (left : ℕ) → left ≡ 0 → true ≡ node_whole m left ws q above
  unfolding node_whole
  node-none left e = rw e

  pub node-begins : (left : ℕ) → (left ≡ 0 → ⊥) → AtPlace m left q above ws (q * m + m) (q * m)
  unfolding node_whole
  node-begins zero ne = absurd (ne refl)
  node-begins (suc k) ne =
      let z : suc k - 1 ≡ k = omega arith in
      let n : q * m + m - q * m ≡ m = omega arith in
      record { upto = omega arith; rest = ap₂ (λ (k n : ℕ). each (slot_whole m k ws above) (q * m) n) z n }

  more : (end p : ℕ) → p < end → end - p ≡ suc (end - (p + 1))
  more end p h = omega arith

  passes : (t : ℕ → Bool) (p n : ℕ) → t p ≡ true → each t p (suc n) ≡ each t (p + 1) n
  unfolding each
  passes t p n e = rw (e, add-one p)

  fails : (t : ℕ → Bool) (p n : ℕ) → t p ≡ false → each t p (suc n) ≡ false
  unfolding each
  fails t p n e = rw e

  none : (t : ℕ → Bool) (p n : ℕ) → n ≡ 0 → each t p n ≡ true
  unfolding each
  none t p n e = rw e

  module _ (left end p : ℕ) (a : AtPlace m left q above ws end p) where
    pub place-passed : p < end → (r : Bool) → r ≡ slot_whole m (left - 1) ws above p → not r ≡ false → AtPlace m left q above ws end (p + 1)
    place-passed h r e f =
        record {
          upto = omega arith;
          rest = sym (ap (each (slot_whole m (left - 1) ws above) p) (more end p h) ∙ passes (slot_whole m (left - 1) ws above) p _ (sym e ∙ not-false r f)) ∙ a.rest;
        }

    pub place-failed : p < end → (r : Bool) → r ≡ slot_whole m (left - 1) ws above p → not r ≡ true → false ≡ node_whole m left ws q above
    place-failed h r e f =
        sym (ap (each (slot_whole m (left - 1) ws above) p) (more end p h) ∙ fails (slot_whole m (left - 1) ws above) p _ (sym e ∙ not-true r f)) ∙ a.rest

    pub node-ends : end ≤ p → true ≡ node_whole m left ws q above
    node-ends h = sym (none (slot_whole m (left - 1) ws above) p (end - p) (omega arith)) ∙ a.rest

-- ---- a slot: its own test, then the node under it
under-as : (m k : ℕ) (ws : List ℕ) (p : ℕ) → under_if m (ltb 0 k) ws p ≡ under_of m k ws p
unfolding under_of
under-as m zero ws p = refl
under-as m (suc k) ws p = rw (lt-ltb 0 (suc k) (omega arith))

module _ (m k above : ℕ) (ws : List ℕ) (p : ℕ) (b : Bool) (own : b ≡ broken above (under_if m (ltb 0 k) ws p) (slot_of ws p)) where
  own-as : broken above (under_of m k ws p) (slot_of ws p) ≡ b
  own-as = ap (λ (nd : List Slot). broken above nd (slot_of ws p)) (sym (under-as m k ws p)) ∙ sym own

  pub slot-off : b ≡ true → false ≡ slot_whole m k ws above p
  slot-off e = rw (own-as, e)

  pub slot-on : b ≡ false → (rank : ℕ) → rank ≡ (slot_of ws p).element.rank.0 → (r : Bool) → r ≡ node_whole m k ws (p + 1) rank → r ≡ slot_whole m k ws above p
  slot-on e rank f r g = rw (own-as, e) (g ∙ ap₂ (node_whole m k ws) (add-one p) f)

-- ---- the call
pub descent-shape : (m levels : ℕ) (ws : List ℕ) (t : Bool) → t ≡ shape_ok m levels (length ws) → not t ≡ true → Err BadShape ≡ descended m levels ws
unfolding descended
descent-shape m levels ws t e p = rw (← e, not-true t p)

pub descent-told : (m levels : ℕ) (ws : List ℕ) (t : Bool) → t ≡ shape_ok m levels (length ws) → not t ≡ false → (r : Bool) → r ≡ node_whole m levels ws 0 0 → Ok r ≡ descended m levels ws
unfolding descended
descent-told m levels ws t e y r f = rw (← e, not-false t y, ← f)
