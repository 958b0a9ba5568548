-- The check by descent answers as the walk.
use Rattle.std.specs.Prelude.{Err, Ok, Result, Some}
use Rattle.laws.specs.Prelude.{BadShape, Bool, List, Refusal, ◌&&◌, ◌*◌, ◌+◌, ◌/◌, ◌<◌, ◌∙◌, ◌≡◌, ◌≤◌, and_left, and_right, and-true, ap, arith, cond, eq-or-lt_of_le, false, le-ltb, length, lt-ltb, ltb, ltb-false, ltb-true, mul-le-mul_right, not, not-suc-le-zero, not-true, refl, subst, suc, suc-add, suc-mul, sym, true, zero, ℕ, ⊎_elim}
use native.Mathlib.Nat.{mul_comm, lt_of_not-le, div-eq_of_lt-le, div-mul-le_self, lt-div-mul-add}
use Rattle.tree_model.specs.declared.Slot.{Slot}
use Rattle.tree_model.specs.Prelude.{Shape, room, shape_ok, slot_of}
use Rattle.tree_model.proofs.Laws.{order-pos, shape_is}
use Rattle.tree_mend_model.specs.Check.{walk, broken, broken_at, checked, each, under_at, under_of, rank_above, node_whole, slot_whole, descended, bare_of}
use Rattle.tree_mend_model.specs.Promise.{broken_slot, NoneBroken}

le_of_not_lt : (a b : ℕ) → (b < a → ⊥) → a ≤ b
le_of_not_lt a b h = let l : a < suc b = lt_of_not-le h in omega arith

-- ---- what each slot of a node passes
pub all-each : (t : ℕ → Bool) (p n : ℕ) → ((i : ℕ) → p ≤ i → i < p + n → t i ≡ true) → each t p n ≡ true
unfolding each
all-each t p zero h = refl
all-each t p (suc n) h = and-true (t p) (each t (suc p) n) (h p (omega arith) (omega arith)) (all-each t (suc p) n (λ i le lt. h i (omega arith) (omega arith)))

pub each_all : (t : ℕ → Bool) (p n : ℕ) → each t p n ≡ true → (i : ℕ) → p ≤ i → i < p + n → t i ≡ true
unfolding each
each_all t p zero e i le lt = absurd (omega arith)
each_all t p (suc n) e i le lt =
    ⊎_elim (λ s. subst (λ (j : ℕ). t j ≡ true) s (and_left (t p) (each t (suc p) n) e))
    (λ l. each_all t (suc p) n (and_right (t p) (each t (suc p) n) e) i l (omega arith)) (eq-or-lt_of_le le)

-- ---- level d from 0: its slots are room m d and on, to room m (suc d); its nodes first_node m d to room m d
unfoldable pub first_node : ℕ → ℕ → ℕ
first_node m zero = 0
first_node m (suc d) = suc (room m d)

pub first-room : (m d : ℕ) → first_node m d * m ≡ room m d
unfolding first_node room
first-room m zero = omega arith
first-room m (suc d) = mul_comm (suc (room m d)) m

pub room-step : (m d : ℕ) → room m (suc d) ≡ room m d * m + m
unfolding room
room-step m d = mul_comm m (suc (room m d)) ∙ suc-mul (room m d) m

room_next : (m d : ℕ) → 0 < m → room m d ≤ room m (suc d)
room_next m d some = omega (arith, room-step m d, mul-le-mul_right (room m d) some, mul_comm (room m d) m)

pub room-grows : (m d k : ℕ) → 0 < m → room m d ≤ room m (d + k)
room-grows m d zero some = let e : d ≡ d + 0 = omega arith in subst (λ (n : ℕ). room m d ≤ room m n) e (omega arith)
room-grows m d (suc k) some =
    let e : suc (d + k) ≡ d + suc k = omega arith in
    subst (λ (n : ℕ). room m d ≤ room m n) e (omega (arith, room-grows m d k some, room_next m (d + k) some))

module _ (m : ℕ) (some : 0 < m) (ws : List ℕ) where
  -- a slot of a level is one of a node of the level
  pub record InLevel (d p : ℕ) : Type 0 where
    pub low : first_node m d ≤ p / m
    pub high : p / m ≤ room m d
    pub from : p / m * m ≤ p
    pub to : p < p / m * m + m

  pub in-level : (d p : ℕ) → room m d ≤ p → p < room m (suc d) → InLevel d p
  in-level d p le lt =
      let a : p / m * m ≤ p = div-mul-le_self p m in
      let b : p < p / m * m + m = lt-div-mul-add some in
      record {
        low = le_of_not_lt (first_node m d) (p / m) (λ l. omega (arith, mul-le-mul_right m l, suc-mul (p / m) m, first-room m d));
        high = le_of_not_lt (p / m) (room m d) (λ l. omega (arith, mul-le-mul_right m l, suc-mul (room m d) m, room-step m d));
        from = a;
        to = b;
      }

  -- a slot of a node of a level is one of the level
  pub slot-level : (d q p : ℕ) → first_node m d ≤ q → q ≤ room m d → q * m ≤ p → p < q * m + m → (room m d ≤ p) × (p < room m (suc d)) × (p / m ≡ q)
  slot-level d q p lo hi le lt = (
    omega (arith, mul-le-mul_right m lo, first-room m d),
    omega (arith, mul-le-mul_right m hi, room-step m d),
    div-eq_of_lt-le m le (omega arith),
  )

  pub under_same : (k d l p : ℕ) → d + k ≡ l → room m d ≤ p → p < room m (suc d) → under_at m (room m l) ws p ≡ under_of m k ws p
  unfolding under_at under_of
  under_same zero d l p e le lt =
      let s : d ≡ l = omega arith in
      rw (le-ltb p (room m l) (subst (λ (n : ℕ). room m n ≤ p) s le))
  under_same (suc k) d l p e le lt =
      let s : suc d + k ≡ l = omega arith in
      rw (lt-ltb p (room m l) (subst (λ (n : ℕ). p < room m n) s (omega (arith, room-grows m (suc d) k some))))

  -- a slot's own test, both ways
  pub own-test : (k d l p : ℕ) → d + k ≡ l → room m d ≤ p → p < room m (suc d)
      → broken_at m (room m l) ws p ≡ broken (rank_above ws (p / m)) (under_of m k ws p) (slot_of ws p)
  unfolding broken_at
  own-test k d l p e le lt = ap (λ (nd : List Slot). broken (rank_above ws (p / m)) nd (slot_of ws p)) (under_same k d l p e le lt)

  -- the nodes of a level, with k levels below each of its slots
  abbrev Passing : ℕ → ℕ → Type 0
  Passing k d = (q : ℕ) → first_node m d ≤ q → q ≤ room m d → node_whole m k ws q (rank_above ws q) ≡ true

  abbrev NoneOf : ℕ → Type 0
  NoneOf l = (p : ℕ) → p < room m (suc l) → broken_at m (room m l) ws p ≡ false

  -- the slots of a level: not broken, and what is under them passes
  node-passes : (k d l : ℕ) → d + k ≡ l → NoneOf l → Passing k (suc d) → Passing (suc k) d
  unfolding node_whole first_node rank_above
  node-passes k d l e h below q lo hi = all-each _ (q * m) m (λ p le lt. slot p (slot-level d q p lo hi le lt))
    where
      slot : (p : ℕ) → (room m d ≤ p) × (p < room m (suc d)) × (p / m ≡ q) → slot_whole m k ws (rank_above ws q) p ≡ true
      slot p at =
          let inside : p < room m (suc l) = omega (arith, at.1, room-grows m (suc d) k some, ap (λ (n : ℕ). room m (suc n)) e, ap (room m) (suc-add d k)) in
          let own : broken (rank_above ws q) (under_of m k ws p) (slot_of ws p) ≡ false =
          ap (λ (q : ℕ). broken (rank_above ws q) (under_of m k ws p) (slot_of ws p)) (sym at.2) ∙ sym (own-test k d l p e at.0 at.1) ∙ h p inside in
          and-true (not (broken (rank_above ws q) (under_of m k ws p) (slot_of ws p))) _ (ap not own) (below (suc p) (omega (arith, at.0)) (omega (arith, at.1)))

  -- no slot is broken, so every node passes
  pub down : (k d l : ℕ) → d + k ≡ l → NoneOf l → Passing (suc k) d
  unfolding node_whole
  down zero d l e h = node-passes zero d l e h (λ q lo hi. refl)
  down (suc k) d l e h = node-passes (suc k) d l e h (down k (suc d) l (omega arith) h)

  -- every node of a level passes, so every slot of it does
  slot-passes : (k d p : ℕ) → Passing (suc k) d → room m d ≤ p → p < room m (suc d) → slot_whole m k ws (rank_above ws (p / m)) p ≡ true
  unfolding node_whole
  slot-passes k d p h le lt =
      let i = in-level d p le lt in
      each_all _ (p / m * m) m (h (p / m) i.low i.high) p i.from i.to

  own-passes : (k d l p : ℕ) → d + k ≡ l → Passing (suc k) d → room m d ≤ p → p < room m (suc d) → broken_at m (room m l) ws p ≡ false
  own-passes k d l p e h le lt =
      own-test k d l p e le lt
      ∙ not-true (broken (rank_above ws (p / m)) (under_of m k ws p) (slot_of ws p)) (and_left (not (broken (rank_above ws (p / m)) (under_of m k ws p) (slot_of ws p))) _ (slot-passes k d p h le lt))

  -- .. and so do the nodes of the next
  next-passes : (k d : ℕ) → Passing (suc k) d → Passing k (suc d)
  unfolding first_node rank_above
  next-passes k d h zero lo hi = absurd (omega arith)
  next-passes k d h (suc p) lo hi =
      and_right (not (broken (rank_above ws (p / m)) (under_of m k ws p) (slot_of ws p))) _ (slot-passes k d p h (omega arith) (omega arith))

  -- the nodes of a level pass, so no slot from there on is broken
  pub up : (k d l : ℕ) → d + k ≡ l → Passing (suc k) d → (p : ℕ) → room m d ≤ p → p < room m (suc l) → broken_at m (room m l) ws p ≡ false
  up zero d l e h p le lt =
      let s : l ≡ d = omega arith in
      own-passes zero d l p e h le (subst (λ (n : ℕ). p < room m (suc n)) s lt)
  up (suc k) d l e h p le lt = go (ltb p (room m (suc d))) refl (λ le. up k (suc d) l (omega arith) (next-passes (suc k) d h) p le lt)
    where
      go : (b : Bool) → ltb p (room m (suc d)) ≡ b → (room m (suc d) ≤ p → broken_at m (room m l) ws p ≡ false) → broken_at m (room m l) ws p ≡ false
      go true t ih = own-passes (suc k) d l p e h le (ltb-true p (room m (suc d)) t)
      go false t ih = ih (ltb-false p (room m (suc d)) t)

  -- from the root
  pub none-whole : (l : ℕ) → NoneBroken m (suc l) ws → node_whole m (suc l) ws 0 0 ≡ true
  unfolding rank_above first_node
  none-whole l h = down l 0 l (omega arith) h 0 (omega arith) (omega arith)

  pub whole-none : (l : ℕ) → node_whole m (suc l) ws 0 0 ≡ true → NoneBroken m (suc l) ws
  unfolding rank_above room
  whole-none l e p lt = up l 0 l (omega arith) (λ q lo hi. root q hi) p (omega arith) lt
    where
      root : (q : ℕ) → q ≤ room m 0 → node_whole m (suc l) ws q (rank_above ws q) ≡ true
      root zero hi = e
      root (suc q) hi = absurd (not-suc-le-zero hi)

same_truth : (a b : Bool) → (a ≡ true → b ≡ true) → (b ≡ true → a ≡ true) → a ≡ b
same_truth true b f g = sym (f refl)
same_truth false true f g = g refl
same_truth false false f g = refl

walk-bare : (t : ℕ → Bool) (p n : ℕ) → bare_of (Ok (walk t p n)) ≡ Ok (each (λ i. not (t i)) p n)
unfolding walk each
walk-bare t p zero = refl
walk-bare t p (suc n) = go (t p) (walk-bare t (suc p) n)
  where
    go : (b : Bool) → bare_of (Ok (walk t (suc p) n)) ≡ Ok (each (λ i. not (t i)) (suc p) n)
        → bare_of (Ok (cond b (Some p) (walk t (suc p) n))) ≡ Ok (not b && each (λ i. not (t i)) (suc p) n)
    go true ih = refl
    go false ih = ih

descent-walk : (m l : ℕ) (ws : List ℕ) → 0 < m → node_whole m (suc l) ws 0 0 ≡ each (λ i. not (broken_slot m (suc l) ws i)) 0 (room m (suc l))
descent-walk m l ws some =
    same_truth (node_whole m (suc l) ws 0 0) (each (λ i. not (broken_slot m (suc l) ws i)) 0 (room m (suc l)))
    (λ e. all-each _ 0 (room m (suc l)) (λ i le lt. ap not (whole-none m some ws l e i (omega arith))))
    (λ e. none-whole m some ws l (λ p lt. not-true (broken_slot m (suc l) ws p) (each_all _ 0 (room m (suc l)) e p (omega arith) (omega arith))))

-- THE DESCENT answers as the walk, for all inputs
pub descent-is : (m levels : ℕ) (ws : List ℕ) → descended m levels ws ≡ bare_of (checked m levels ws)
unfolding descended checked
descent-is m levels ws = go (shape_ok m levels (length ws)) refl
  where
    at : (levels : ℕ) → Shape m levels (length ws) → ◌≡◌ {A = Result Bool Refusal} (Ok (node_whole m levels ws 0 0)) (bare_of (Ok (walk (broken_slot m levels ws) 0 (room m levels))))
    at zero sh = absurd (not-suc-le-zero sh.some)
    at (suc l) sh = ap Ok (descent-walk m l ws (order-pos sh)) ∙ sym (walk-bare (broken_slot m (suc l) ws) 0 (room m (suc l)))

    go : (b : Bool) → shape_ok m levels (length ws) ≡ b
        → cond b (Ok (node_whole m levels ws 0 0)) (Err BadShape) ≡ bare_of (cond b (Ok (walk (broken_slot m levels ws) 0 (room m levels))) (Err BadShape))
    go true s = at levels (shape_is m levels (length ws) s)
    go false s = refl
