-- What the code of a node's tests and steps has read makes the test's answer and the step.
use Rattle.laws.specs.Prelude.{All, Bool, Element, List, ◌%◌, ◌&&◌, ◌*◌, ◌+◌, ◌-◌, ◌/◌, ◌<◌, ◌^◌, ◌||◌, ◌∙◌, ◌≡◌, ◌≤◌, add-one, and-unit, ap, ap₂, arith, blank, eqb, eqb-true, false, false≢true, key, le-leb, le-ltb, leb, leb-false, leb-true, length, lt-leb, lt-ltb, ltb, min, mul-le-mul_right, not, not-false, not-true, pred, refl, sub-one, subst, suc, suc-add, sym, true, zero, zero-add, ℕ}
use native.Mathlib.Nat.{mul-div_cancel, pos_of_ne-zero, pow-suc}
use lib.Pow.{shl_exact}
use Rattle.std.proofs.Math.Nat.{min-eq_left, min-eq_right}
use Rattle.tree_node.specs.Room.{Capacity, child_of, lift_ok, low_below, slots_counted}
use Rattle.tree_model.proofs.Laws.{all-slot_at, every-all, least-empty, least-full, least-in, least-room, lowest-is, lowest-none, node-length, node-slot, room-fails, slot-limit, some-sum, void}
use Rattle.tree_model.specs.Prelude.{every, first_empty, has_room, has_some, is_empty, keep, least_count, lifts, low, lowest, move, node_move, node_of, node_ok, op_move, order_ok, pass, put_by, put_move, read_ok, room, shape_ok, slot_at, slot_limit, slot_of, slot_ok, slot_words, step_ok, sum_counts, swap_by, swap_move, take_by, take_move}
use Rattle.tree_model.specs.declared.Move.{Move}
use Rattle.tree_model.specs.declared.Op.{Op}
use Rattle.tree_model.specs.declared.Op.TheVariants.{Nothing, Put, Swap, Take}
use Rattle.tree_model.specs.declared.Slot.{Slot}

-- ---- numbers
pub room_next : (m i : ℕ) → m * (room m i + 1) ≡ room m (i + 1)
unfolding room
room_next m i = rw (add-one, add-one)

room-mono : (m i d : ℕ) → 0 < m → room m i ≤ room m (d + i)
unfolding room
room-mono m i zero h = rw zero-add (omega arith)
room-mono m i (suc d) h = rw suc-add (omega (arith, room-mono m i d h, mul-le-mul_right (suc (room m (d + i))) h))

pub room-up : (m i j : ℕ) → 0 < m → i ≤ j → room m i ≤ room m j
room-up m i j h l = let e : j - i + i ≡ j = omega arith in subst (λ (n : ℕ). room m i ≤ room m n) e (room-mono m i (j - i) h)

pub capacity-end : (m levels i r : ℕ) → i ≡ levels → r ≡ room m i → Capacity m levels r
capacity-end m levels i r e p =
    let q : r ≡ room m levels = p ∙ ap (room m) e in
    record { within = λ h. q; above = λ h. omega arith }

pub capacity-above : (m levels i r : ℕ) → 0 < m → i ≤ levels → slot_limit < r → r ≡ room m i → Capacity m levels r
capacity-above m levels i r h l a p = record { within = λ w. absurd (omega (arith, room-up m i levels h l)); above = λ w. a }

-- the count goes on while it is within the limit, and stands once it is above
pub counted_next : (m i r : ℕ) → r ≡ slots_counted m i → r ≤ slot_limit → m * (r + 1) ≡ slots_counted m (i + 1)
unfolding slots_counted
counted_next m i r e h =
    rw (add-one i) (rw (le-leb (slots_counted m i) slot_limit (omega arith)) (ap (λ (n : ℕ). m * n) (omega arith)))

counted-stands : (m i d : ℕ) → slot_limit < slots_counted m i → slots_counted m (d + i) ≡ slots_counted m i
unfolding slots_counted
counted-stands m i zero h = ap (slots_counted m) (zero-add i)
counted-stands m i (suc d) h =
    let same : slots_counted m (d + i) ≡ slots_counted m i = counted-stands m i d h in
    let off : leb (slots_counted m (d + i)) slot_limit ≡ false = lt-leb (slots_counted m (d + i)) slot_limit (omega arith) in
    rw suc-add (rw off same)

pub counted-above : (m levels i r : ℕ) → i ≤ levels → slot_limit < r → r ≡ slots_counted m i → r ≡ slots_counted m levels
counted-above m levels i r l a p =
    let e : levels - i + i ≡ levels = omega arith in
    p ∙ sym (counted-stands m i (levels - i) (omega arith)) ∙ ap (slots_counted m) e

-- the counted slots are the room up to the first count above the limit
counted-room : (m k : ℕ) → 0 < m → room m (k - 1) ≤ slot_limit → slots_counted m k ≡ room m k
unfolding slots_counted room
counted-room m zero h l = refl
counted-room m (suc k) h l =
    let e : suc k - 1 ≡ k = omega arith in
    let here : room m k ≤ slot_limit = subst (λ (n : ℕ). room m n ≤ slot_limit) e l in
    let same : slots_counted m k ≡ room m k = counted-room m k h (omega (arith, room-up m (k - 1) k h (omega arith))) in
    rw (same, le-leb (room m k) slot_limit here)

-- ---- powers of two, and their sums
shifted : (a k : ℕ) → a ≤ 8 → k ≤ 18 → a * 2 ^ k % 2 ^ 64 ≡ a * 2 ^ k
shifted a k few h = shl_exact 4 k 64 (omega arith) (omega arith)

room-two : (k : ℕ) → room 2 k + 2 ≡ 2 * 2 ^ k
unfolding room
room-two zero = refl
room-two (suc k) = omega (arith, room-two k, pow-suc 2 k)

room-four : (k : ℕ) → 3 * room 4 k + 4 ≡ 4 * 2 ^ (2 * k)
unfolding room
room-four zero = refl
room-four (suc k) =
    let e : 2 * suc k ≡ suc (suc (2 * k)) = omega arith in
    omega (arith, room-four k, ap (λ (n : ℕ). 2 ^ n) e, pow-suc 2 (suc (2 * k)), pow-suc 2 (2 * k))

room-eight : (k : ℕ) → 7 * room 8 k + 8 ≡ 8 * 2 ^ (3 * k)
unfolding room
room-eight zero = refl
room-eight (suc k) =
    let e : 3 * suc k ≡ suc (suc (suc (3 * k))) = omega arith in
    omega (arith, room-eight k, ap (λ (n : ℕ). 2 ^ n) e, pow-suc 2 (suc (suc (3 * k))), pow-suc 2 (suc (3 * k)), pow-suc 2 (3 * k))

pub sum-two : (k : ℕ) → k ≤ 16 → 2 * 2 ^ k % 2 ^ 64 - 2 ≡ room 2 k
sum-two k h = omega (arith, room-two k, shifted 2 k (omega arith) (omega arith))

pub sum-four : (k : ℕ) → k ≤ 9 → (4 * 2 ^ (2 * k) % 2 ^ 64 - 4) / 3 ≡ room 4 k
sum-four k h =
    let s : 4 * 2 ^ (2 * k) % 2 ^ 64 - 4 ≡ room 4 k * 3 = omega (arith, room-four k, shifted 4 (2 * k) (omega arith) (omega arith)) in
    ap (λ (n : ℕ). n / 3) s ∙ mul-div_cancel (room 4 k) (omega arith)

pub sum-eight : (k : ℕ) → k ≤ 6 → (8 * 2 ^ (3 * k) % 2 ^ 64 - 8) / 7 ≡ room 8 k
sum-eight k h =
    let s : 8 * 2 ^ (3 * k) % 2 ^ 64 - 8 ≡ room 8 k * 7 = omega (arith, room-eight k, shifted 8 (3 * k) (omega arith) (omega arith)) in
    ap (λ (n : ℕ). n / 7) s ∙ mul-div_cancel (room 8 k) (omega arith)

-- .. so that no more levels need be looked at
pub summed : (m n last levels k r : ℕ) → m ≡ n → 0 < n → room n (last - 1) ≤ slot_limit → slot_limit < room n last → k ≡ min levels last → r ≡ room n k
    → Capacity m levels r × (r ≡ slots_counted m levels)
summed m n last levels k r e h below above c er =
    subst (λ (m : ℕ). Capacity m levels r × (r ≡ slots_counted m levels)) (sym e) (go (leb levels last) refl)
  where
    go : (t : Bool) → leb levels last ≡ t → Capacity n levels r × (r ≡ slots_counted n levels)
    go true p =
        let l : levels ≤ last = leb-true levels last p in
        let q : r ≡ room n levels = er ∙ ap (room n) (c ∙ min-eq_left l) in
        (capacity-end n levels levels r refl q, q ∙ sym (counted-room n levels h (omega (arith, room-up n (levels - 1) (last - 1) h (omega arith)))))
    go false p =
        let l : last ≤ levels = omega (arith, leb-false levels last p) in
        let q : r ≡ room n last = er ∙ ap (room n) (c ∙ min-eq_right l) in
        (capacity-above n levels last r h l (omega arith) q, counted-above n levels last r l (omega arith) (q ∙ sym (counted-room n last h below)))

-- a slot's count by its words
module _ (m : ℕ) (ws : List ℕ) (i : ℕ) (j : ℕ) (a : Slot) (inside : j < m) (read : a ≡ slot_of ws (i + j)) where
  abbrev nd : List Slot
  nd = node_of m ws i

  pub read-slot : (p : ℕ) → j ≡ p → slot_at nd p ≡ a
  read-slot p e = ap (slot_at nd) (sym e) ∙ node-slot m ws i j inside ∙ sym read

  -- ---- put
  module _ (at_least_lem : j ≡ least_count nd) where
    pub least-count-is : (slot_at nd (least_count nd)).count ≡ a.count
    least-count-is = ap (λ (s : Slot). s.count) (read-slot (least_count nd) at_least_lem)

    pub put_first : (x : Element) (v : Move) → a.count ≡ 0 → v ≡ move j x 1 Nothing → v ≡ put_move x nd
    unfolding put_move put_by
    put_first x v z e =
        let len : 0 < length nd = omega (arith, node-length m ws i) in
        let f : first_empty nd ≡ least_count nd = least-empty nd len (least-count-is ∙ z) in
        let t : ltb (first_empty nd) (length nd) ≡ true = lt-ltb (first_empty nd) (length nd) (omega (arith, least-in nd len)) in
        e ∙ ap (λ (p : ℕ). move p x 1 Nothing) (at_least_lem ∙ sym f) ∙ sym (ap (λ (b : Bool). put_by b x nd) t)

    pub put_full : (x : Element) → (a.count ≡ 0 → ⊥) → put_move x nd ≡ move j (keep x a.element) (suc a.count) (Put (pass x a.element))
    unfolding put_move put_by
    put_full x n =
        ap (λ (b : Bool). put_by b x nd) (le-ltb (first_empty nd) (length nd) (least-full nd (λ z. n (sym least-count-is ∙ z))))
        ∙ ap (λ (p : ℕ). move p (keep x (slot_at nd p).element) (suc (slot_at nd p).count) (Put (pass x (slot_at nd p).element))) (sym at_least_lem)
        ∙ ap (λ (s : Slot). move j (keep x s.element) (suc s.count) (Put (pass x s.element))) (read-slot j refl)

    -- the test: the smallest count leaves room exactly where not every count is at its limit
    room-test : (r : ℕ) → node_ok r nd ≡ true → leb a.count r ≡ has_room r nd
    room-test r ok = go (has_room r nd) refl
      where
        go : (b : Bool) → has_room r nd ≡ b → leb a.count r ≡ b
        go true e = le-leb a.count r (subst (λ (n : ℕ). n ≤ r) least-count-is (least-room r nd (omega (arith, node-length m ws i)) ok e))
        go false e =
            let full : All (λ s. s.count ≡ suc r) nd = (room-fails r nd).found e in
            lt-leb a.count r (omega (arith, all-slot_at (λ s. s.count ≡ suc r) nd (least_count nd) full (least-in nd (omega (arith, node-length m ws i))), least-count-is))

    pub put-test : (r : ℕ) (t : Bool) → t ≡ node_ok r nd → (t && leb a.count r) ≡ (node_ok r nd && has_room r nd)
    put-test r t e = go (node_ok r nd) refl
      where
        go : (b : Bool) → node_ok r nd ≡ b → (t && leb a.count r) ≡ (node_ok r nd && has_room r nd)
        go true p = rw (e, p) (room-test r p)
        go false p = rw (e, p)

  -- ---- take and swap
  module _ (f : ℕ) (at-lowest : j ≡ lowest nd) where
    abbrev child : ℕ → List Slot
    child = child_of m f ws

    pub low_count : (slot_at nd (lowest nd)).count ≡ a.count
    low_count = ap (λ (s : Slot). s.count) (read-slot (lowest nd) at-lowest)

    pub take_ends : (b : Element) (v : Move) → a.count ≤ 1 → b ≡ blank → v ≡ move j b 0 Nothing → v ≡ take_move nd (low_below m f ws)
    unfolding take_move take_by
    take_ends b v h eb e =
        e ∙ ap₂ (λ (p : ℕ) (b : Element). move p b 0 Nothing) at-lowest eb
        ∙ sym (ap (λ (t : Bool). take_by t nd (low_below m f ws)) (le-leb (slot_at nd (lowest nd)).count 1 (omega (arith, low_count))))

    pub take-lifts : (up : Element) (v : Move) → 1 < a.count → up ≡ low (child j) → v ≡ move j up (a.count - 1) Take → v ≡ take_move nd (low_below m f ws)
    unfolding take_move take_by
    take-lifts up v h eu e =
        let d : a.count - 1 ≡ pred (slot_at nd (lowest nd)).count = ap (λ (n : ℕ). n - 1) (sym low_count) ∙ sub-one (slot_at nd (lowest nd)).count in
        e ∙ ap₂ (λ (up : Element) (n : ℕ). move j up n Take) eu d ∙ ap (λ (p : ℕ). move p (low (child p)) (pred (slot_at nd (lowest nd)).count) Take) at-lowest
        ∙ sym (ap (λ (t : Bool). take_by t nd (low_below m f ws)) (lt-leb (slot_at nd (lowest nd)).count 1 (omega (arith, low_count))))

    swap-as : (x : Element) (b : Bool) → (leb a.count 1 || not (ltb (key (low (child j))) (key x))) ≡ b → swap_move x nd (low_below m f ws) ≡ swap_by b x nd (low_below m f ws)
    unfolding swap_move
    swap-as x b e =
        ap (λ (t : Bool). swap_by t x nd (low_below m f ws))
        (ap₂ (λ (n p : ℕ). leb n 1 || not (ltb (key (low (child p))) (key x))) low_count (sym at-lowest) ∙ e)

    swap-kept : (x : Element) (v : Move) → (leb a.count 1 || not (ltb (key (low (child j))) (key x))) ≡ true → v ≡ move j x a.count Nothing → v ≡ swap_move x nd (low_below m f ws)
    unfolding swap_by
    swap-kept x v t e = e ∙ ap₂ (λ (p n : ℕ). move p x n Nothing) at-lowest (sym low_count) ∙ sym (swap-as x true t)

    pub swap_ends : (x : Element) (v : Move) → a.count ≤ 1 → v ≡ move j x a.count Nothing → v ≡ swap_move x nd (low_below m f ws)
    swap_ends x v h e = swap-kept x v (rw (le-leb a.count 1 h)) e

    pub swap-stays : (x up : Element) (b : Bool) (v : Move) → 1 < a.count → up ≡ low (child j) → b ≡ ltb (key up) (key x) → b ≡ false
        → v ≡ move j x a.count Nothing → v ≡ swap_move x nd (low_below m f ws)
    swap-stays x up b v h eu t eb e = swap-kept x v (rw (lt-leb a.count 1 h, ← eu, ← t, eb)) e

    pub swap-lifts : (x up : Element) (b : Bool) (v : Move) → 1 < a.count → up ≡ low (child j) → b ≡ ltb (key up) (key x) → b ≡ true
        → v ≡ move j up a.count (Swap x) → v ≡ swap_move x nd (low_below m f ws)
    unfolding swap_by
    swap-lifts x up b v h eu t eb e =
        e ∙ ap₂ (λ (up : Element) (n : ℕ). move j up n (Swap x)) eu (sym low_count)
        ∙ ap (λ (p : ℕ). move p (low (child p)) (slot_at nd (lowest nd)).count (Swap x)) at-lowest
        ∙ sym (swap-as x false (rw (lt-leb a.count 1 h, ← eu, ← t, eb)))

    -- ---- the tests of a take or swap
    lifts-is : (b : Bool) → leb a.count 1 ≡ b → lifts Take nd ≡ not b
    unfolding lifts
    lifts-is b e = ap (λ (n : ℕ). not (leb n 1)) low_count ∙ ap not e

    pub lift-ends : (k : ℕ) → (node_ok (room m k) nd && has_some nd) ≡ true → a.count ≤ 1 → true ≡ lift_ok m k nd child
    unfolding lift_ok step_ok read_ok
    lift-ends k ok h = rw (lifts-is true (le-leb a.count 1 h), ok)

    pub lift-reads : (k : ℕ) (t : Bool) → (node_ok (room m k) nd && has_some nd) ≡ true → 1 < a.count
        → t ≡ (node_ok (room m (k - 1)) (child j) && has_some (child j)) → t ≡ lift_ok m k nd child
    unfolding lift_ok step_ok read_ok
    lift-reads k t ok h e =
        let d : k - 1 ≡ pred k = sub-one k in
        e ∙ ap₂ (λ (n p : ℕ). node_ok (room m n) (child p) && has_some (child p)) d at-lowest ∙ sym (rw (lifts-is false (lt-leb a.count 1 h), ok))

    -- a count above 1 in a node in order has a level below it
    pub below-some : (k : ℕ) → node_ok (room m k) nd ≡ true → 1 < a.count → 1 ≤ k
    unfolding node_ok room
    below-some zero ok h =
        let lim = all-slot_at (λ s. slot_ok 0 s ≡ true) nd (lowest nd) (every-all (slot_ok 0) nd ok) (subst (λ (p : ℕ). p < length nd) at-lowest (omega (arith, node-length m ws i))) in
        absurd (omega (arith, slot-limit 0 (slot_at nd (lowest nd)) lim, low_count))
    below-some (suc k) ok h = omega arith

-- some slot is occupied exactly where the scan finds one
pub some-test : (m : ℕ) (ws : List ℕ) (i j : ℕ) (r : ℕ) (t : Bool) → j ≡ lowest (node_of m ws i) → t ≡ node_ok r (node_of m ws i)
    → (t && ltb j m) ≡ (node_ok r (node_of m ws i) && has_some (node_of m ws i))
unfolding has_some
some-test m ws i j r t e et = rw et (ap (λ (b : Bool). node_ok r (node_of m ws i) && b) (go (every is_empty nd) refl))
  where
    nd : List Slot
    nd = node_of m ws i

    go : (b : Bool) → every is_empty (node_of m ws i) ≡ b → ltb j m ≡ not b
    go true p = le-ltb j m (omega (arith, e, lowest-none nd (λ a h. void (slot_at nd a) (all-slot_at (λ s. is_empty s ≡ true) nd a (every-all is_empty nd p) h)), node-length m ws i))
    go false p = lt-ltb j m (omega (arith, e, (lowest-is nd (some-sum nd p)).inside, node-length m ws i))

pub lowest-in : (m : ℕ) (ws : List ℕ) (i j : ℕ) → 0 < sum_counts (node_of m ws i) → j ≡ lowest (node_of m ws i) → j < m
lowest-in m ws i j h e = omega (arith, (lowest-is (node_of m ws i) h).inside, node-length m ws i)

-- ---- any operation
module _ (m k : ℕ) (o : Op) (nd : List Slot) (child : ℕ → List Slot) where
  pub step-nothing : o ≡ Nothing → true ≡ step_ok m k o nd child
  unfolding step_ok read_ok lifts
  step-nothing e = rw e

  pub step-put : (x : Element) (cap : ℕ) (t : Bool) → o ≡ Put x → Capacity m k cap → room m k ≤ slot_limit → t ≡ (node_ok cap nd && has_room cap nd) → t ≡ step_ok m k o nd child
  unfolding step_ok read_ok lifts
  step-put x cap t e c l p =
      p ∙ ap (λ (n : ℕ). node_ok n nd && has_room n nd) (c.within l) ∙ sym (and-unit (node_ok (room m k) nd && has_room (room m k) nd)) ∙ ap (λ (o : Op). step_ok m k o nd child) (sym e)

  pub step-take : (t : Bool) → o ≡ Take → t ≡ lift_ok m k nd child → t ≡ step_ok m k o nd child
  unfolding lift_ok
  step-take t e p = p ∙ ap (λ (o : Op). step_ok m k o nd child) (sym e)

  pub step-swap : (x : Element) (t : Bool) → o ≡ Swap x → t ≡ lift_ok m k nd child → t ≡ step_ok m k o nd child
  unfolding lift_ok step_ok read_ok lifts
  step-swap x t e p = p ∙ ap (λ (o : Op). step_ok m k o nd child) (sym e)

-- the step of any operation
module _ (m : ℕ) (o : Op) (i f : ℕ) (ws : List ℕ) (v : Move) where
  pub move-nothing : (b : Element) → o ≡ Nothing → b ≡ blank → v ≡ move m b 0 Nothing → v ≡ node_move m o i f ws
  unfolding node_move op_move
  move-nothing b e eb p =
      p ∙ ap₂ (λ (n : ℕ) (b : Element). move n b 0 Nothing) (sym (node-length m ws i)) eb ∙ ap (λ (o : Op). node_move m o i f ws) (sym e)

  pub move-put : (x : Element) → o ≡ Put x → v ≡ put_move x (node_of m ws i) → v ≡ node_move m o i f ws
  unfolding node_move op_move
  move-put x e p = p ∙ ap (λ (o : Op). node_move m o i f ws) (sym e)

  pub move-take : o ≡ Take → v ≡ take_move (node_of m ws i) (low_below m f ws) → v ≡ node_move m o i f ws
  unfolding node_move op_move
  move-take e p = p ∙ ap (λ (o : Op). node_move m o i f ws) (sym e)

  pub move-swap : (x : Element) → o ≡ Swap x → v ≡ swap_move x (node_of m ws i) (low_below m f ws) → v ≡ node_move m o i f ws
  unfolding node_move op_move
  move-swap x e p = p ∙ ap (λ (o : Op). node_move m o i f ws) (sym e)

-- ---- the shape
pub order-range : (m : ℕ) → order_ok m ≡ true → (0 < m) × (m ≤ 8)
unfolding order_ok
order-range m e = go (eqb m 2) refl (eqb m 4) refl (eqb m 8) refl e
  where
    go : (a : Bool) → eqb m 2 ≡ a → (b : Bool) → eqb m 4 ≡ b → (c : Bool) → eqb m 8 ≡ c → (a || (b || c)) ≡ true → (0 < m) × (m ≤ 8)
    go true p b q c r e = (omega (arith, eqb-true m 2 p), omega (arith, eqb-true m 2 p))
    go false p true q c r e = (omega (arith, eqb-true m 4 q), omega (arith, eqb-true m 4 q))
    go false p false q true r e = (omega (arith, eqb-true m 8 r), omega (arith, eqb-true m 8 r))
    go false p false q false r e = absurd (false≢true e)

module _ (m levels len : ℕ) (ok : Bool) (order : ok ≡ order_ok m) where
  pub shape-order : not ok ≡ true → false ≡ shape_ok m levels len
  unfolding shape_ok
  shape-order e = rw (← order, not-true ok e)

  pub shape-range : not ok ≡ false → (0 < m) × (m ≤ 8)
  shape-range e = order-range m (sym order ∙ not-false ok e)

  pub shape-levels : levels ≡ 0 → false ≡ shape_ok m levels len
  unfolding shape_ok
  shape-levels e = go (order_ok m)
    where
      go : (b : Bool) → false ≡ (b && (leb 1 levels && (leb (room m levels) slot_limit && leb (slot_words * room m levels) len)))
      go true = rw (lt-leb 1 levels (omega arith))
      go false = refl

  pub shape-above : (r : ℕ) → not ok ≡ false → (levels ≡ 0 → ⊥) → Capacity m levels r → slot_limit < r → false ≡ shape_ok m levels len
  unfolding shape_ok
  shape-above r e n c h =
      let big : slot_limit < room m levels = go (leb (room m levels) slot_limit) refl in
      rw (← order, not-false ok e, le-leb 1 levels (omega (arith, pos_of_ne-zero n)), lt-leb (room m levels) slot_limit big)
    where
      go : (b : Bool) → leb (room m levels) slot_limit ≡ b → slot_limit < room m levels
      go true p = absurd (omega (arith, c.within (leb-true (room m levels) slot_limit p), leb-true (room m levels) slot_limit p))
      go false p = leb-false (room m levels) slot_limit p

  pub shape-slice : (r : ℕ) → not ok ≡ false → (levels ≡ 0 → ⊥) → Capacity m levels r → r ≤ slot_limit → leb (slot_words * r) len ≡ shape_ok m levels len
  unfolding shape_ok
  shape-slice r e n c h =
      let low : room m levels ≤ slot_limit = go (leb (room m levels) slot_limit) refl in
      rw (← order, not-false ok e, le-leb 1 levels (omega (arith, pos_of_ne-zero n)), le-leb (room m levels) slot_limit low, c.within low)
    where
      go : (b : Bool) → leb (room m levels) slot_limit ≡ b → room m levels ≤ slot_limit
      go true p = leb-true (room m levels) slot_limit p
      go false p = absurd (omega (arith, c.above (leb-false (room m levels) slot_limit p)))
