-- What the check's code has read makes the definitions' answers.
use Rattle.laws.specs.Prelude.{Bool, List, ◌*◌, ◌+◌, ◌-◌, ◌/◌, ◌||◌, ◌∙◌, ◌≡◌, ◌≤◌, add-one, ap, arith, eq-eqb, eqb, eqb-false, eqb-true, false, length, ltb, ltb-true, mul-le-mul_right, ne_eqb, not, not-false, refl, subst, suc, suc-mul, sym, true, true≢false, zero, ℕ}
use native.Mathlib.Nat.{mul_comm, mul-le-mul, div-le_self}
use Rattle.tree_model.specs.declared.Slot.{Slot}
use Rattle.tree_model.specs.Prelude.{is_blank, is_empty, node_of, slot_limit, slot_of, slot_words, sum_counts}
use Rattle.tree_node.specs.Look.{NodeIn}
use Rattle.tree_mend_model.proofs.Laws.{empty-sum}
use Rattle.tree_mend_model.specs.Check.{broken, rank_above, under_at, broken_at}
use Rattle.tree_mend.specs.Lie.{under_if, SlotIn, WalkIn}

-- ---- one slot
less_one : (c s : ℕ) → (c ≡ 0 → ⊥) → eqb (c - 1) s ≡ eqb c (suc s)
less_one c s ne = go (eqb (c - 1) s) refl
  where
    go : (b : Bool) → eqb (c - 1) s ≡ b → b ≡ eqb c (suc s)
    go true e = sym (eq-eqb c (suc s) (omega (arith, ne, eqb-true (c - 1) s e)))
    go false e = sym (ne_eqb c (suc s) (λ z. eqb-false (c - 1) s e (omega arith)))

pub broken-empty : (r : ℕ) (nd : List Slot) (s a : Slot) → a ≡ s → (sum : ℕ) → sum ≡ sum_counts nd → (clean : Bool) → clean ≡ is_blank a.element → a.count ≡ 0
    → (not clean || not (eqb sum 0)) ≡ broken r nd s
unfolding broken is_empty
broken-empty r nd s a e sum f clean g z =
    let z' : s.count ≡ 0 = ap (λ (s : Slot). s.count) (sym e) ∙ z in
    rw (f, g, e, eq-eqb s.count 0 z', empty-sum nd)

pub broken-full : (r : ℕ) (nd : List Slot) (s a : Slot) → a ≡ s → (sum : ℕ) → sum ≡ sum_counts nd → (a.count ≡ 0 → ⊥)
    → (not (eqb (a.count - 1) sum) || ltb a.element.rank.0 r) ≡ broken r nd s
unfolding broken is_empty
broken-full r nd s a e sum f ne =
    let ne' : s.count ≡ 0 → ⊥ = λ z. ne (ap (λ (s : Slot). s.count) e ∙ z) in
    rw (f, e, ne_eqb s.count 0 ne', less_one s.count (sum_counts nd) ne')

-- ---- the node under it
pub under_none : (m : ℕ) (u : Bool) (ws : List ℕ) (p : ℕ) → not u ≡ true → 0 ≡ sum_counts (under_if m u ws p)
unfolding sum_counts
under_none m true ws p e = absurd (true≢false (sym e))
under_none m false ws p e = refl

pub under_some : (m : ℕ) (u : Bool) (ws : List ℕ) (p r : ℕ) → not u ≡ false → r ≡ sum_counts (node_of m ws ((p + 1) * m)) → r ≡ sum_counts (under_if m u ws p)
under_some m true ws p r e h = h ∙ ap (λ (n : ℕ). sum_counts (node_of m ws (n * m))) (add-one p)
under_some m false ws p r e h = absurd (true≢false e)

pub under-fits : (m p : ℕ) (u : Bool) (ws : List ℕ) → SlotIn m p u ws → (p + 1) * m ≤ suc slot_limit * 8
under-fits m p u ws i = let l : p + 1 ≤ suc slot_limit = omega (arith, i.small) in omega (arith, mul-le-mul l i.few)

pub under-in : (m p : ℕ) (u : Bool) (ws : List ℕ) → SlotIn m p u ws → not u ≡ false → NodeIn m ((p + 1) * m) ws × (m ≤ 8)
under-in m p u ws i e =
    let l : slot_words * (suc p * m + m) ≤ length ws = i.under (not-false u e) in
    (record { order = i.order; words = subst (λ (n : ℕ). slot_words * (n * m + m) ≤ length ws) (sym (add-one p)) l }, i.few)

-- ---- the slot above it
pub rank-none : (ws : List ℕ) (q : ℕ) → q ≡ 0 → 0 ≡ rank_above ws q
unfolding rank_above
rank-none ws q e = rw e

pub rank-some : (ws : List ℕ) (q r : ℕ) → (q ≡ 0 → ⊥) → r ≡ (slot_of ws (q - 1)).element.rank.0 → r ≡ rank_above ws q
unfolding rank_above
rank-some ws zero r ne e = absurd (ne refl)
rank-some ws (suc p) r ne e = let z : suc p - 1 ≡ p = omega arith in e ∙ ap (λ (p : ℕ). (slot_of ws p).element.rank.0) z

-- ---- a slot of the walk
pub walk-above : (m inner p : ℕ) (ws : List ℕ) → WalkIn m inner p ws → slot_words * (p / m) ≤ length ws
walk-above m inner p ws i = omega (arith, div-le_self p m, i.inside, i.words)

pub walk-slot : (m inner p : ℕ) (ws : List ℕ) → WalkIn m inner p ws → SlotIn m p (ltb p inner) ws
walk-slot m inner p ws i =
    record {
      order = i.order;
      few = i.few;
      small = omega (arith, i.inside, i.limit);
      slot = omega (arith, i.inside, i.words);
      under = λ e. omega (arith, mul-le-mul_right m (ltb-true p inner e), mul_comm m (suc inner), suc-mul inner m, i.words);
    }

pub walk-broken : (m inner p : ℕ) (ws : List ℕ) (above : ℕ) (r : Bool) → above ≡ rank_above ws (p / m) → r ≡ broken above (under_if m (ltb p inner) ws p) (slot_of ws p)
    → r ≡ broken_at m inner ws p
unfolding broken_at under_at
walk-broken m inner p ws above r e h = h ∙ ap (λ (a : ℕ). broken a (under_if m (ltb p inner) ws p) (slot_of ws p)) e
