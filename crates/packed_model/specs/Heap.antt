-- One heap as a tree of slots: an operation done to its end, the last entry, what the heap holds, and when it is packed and in order.
use Rattle.std.specs.Prelude.{◌+◌, ◌-◌, ◌≡◌}
use Rattle.laws.specs.Prelude.{Bool, Element, blank, cond, false, key, ltb, suc, untagged, zero, ℕ}
use Rattle.promise.specs.Prelude.{hit}
use Rattle.packed_model.specs.Node.{size, pick, turn_of, rest_of, Op, step, to_left, to_right}

-- ---- counting: how many elements pass a test
abbrev pub Bag : Type 0
Bag = (Element → Bool) → ℕ

abbrev pub under : ℕ → Element → Bool
under r e = ltb (key e) r

-- a slot, and the two heaps below it
abbrev pub Heap : ℕ → Type 0
Heap zero = Unit {0}
Heap (suc k) = Element × Heap k × Heap k

-- the slot at the top
unfoldable pub top : (k : ℕ) → Heap k → Element
top zero h = blank
top (suc k) h = h.0

-- the step here, and then what goes on at the children
unfoldable pub run : (k : ℕ) → Op → Heap k → Heap k
run zero o h = h
run (suc k) o h =
    let v = step o h.0 (top k h.1) (top k h.2) in
    (v.slot, run k (to_left v) h.1, run k (to_right v) h.2)

-- ---- the position d levels deeper and r further: what stands there, and the heap with e there
unfoldable pub at : (k d r : ℕ) → Heap k → Element
at zero d r h = blank
at (suc k) zero r h = h.0
at (suc k) (suc e) r h = at k e (rest_of e r) (pick (turn_of e r) h.1 h.2)

unfoldable pub cut : (k d r : ℕ) → Heap k → Heap k
cut zero d r h = h
cut (suc k) zero r h = (blank, h.1, h.2)
cut (suc k) (suc e) r h =
    let t = turn_of e r in
    (h.0, pick t (cut k e (rest_of e r) h.1) h.1, pick t h.2 (cut k e (rest_of e r) h.2))

-- ---- what it holds: how many of its elements pass a test
unfoldable pub hit_in : (Element → Bool) → Element → ℕ
hit_in f e = cond (untagged e) 0 (hit (f e))

unfoldable pub many : (Element → Bool) → (k : ℕ) → Heap k → ℕ
many f zero h = 0
many f (suc k) h = hit_in f h.0 + (many f k h.1 + many f k h.2)

abbrev pub Has : Element → Type 0
Has e = untagged e ≡ false

-- PACKED AND ORDERED: d levels are full, and of the next one the first r slots, r ≤ 2^d, and no others; no element is higher in rank than one below it.
-- Of the r the left heap has at most 2^e, the right one what is over
abbrev pub Sound : (k d r : ℕ) → Heap k → Type 0
Sound zero d r h = (d ≡ 0) × (r ≡ 0)
Sound (suc k) zero zero h = (h.0 ≡ blank) × Sound k 0 0 h.1 × Sound k 0 0 h.2
Sound (suc k) zero (suc r) h = (r ≡ 0) × Has h.0 × Sound k 0 0 h.1 × Sound k 0 0 h.2
Sound (suc k) (suc e) r h =
    Has h.0 × (many (under (key h.0)) k h.1 + many (under (key h.0)) k h.2 ≡ 0) × Sound k e (r - (r - size e)) h.1 × Sound k e (r - size e) h.2
