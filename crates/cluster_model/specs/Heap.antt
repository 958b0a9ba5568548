-- The heap as a tree of nodes: an operation done to its end, what the heap holds, and when it is sound.
use Rattle.std.specs.Prelude.{◌+◌, ◌<◌, ◌≡◌, ◌≤◌}
use Rattle.laws.specs.Prelude.{Bool, Element, List, blank, length, set, suc, zero, ℕ}
use Rattle.promise.specs.Prelude.{always, hit}
use Rattle.cluster_model.specs.Node.{Bag, under, above, Place, gap, has, inside, place_at, low, low_elem, Node, lhs, rhs, Op, none, put, take, swap, Note, nothing, fill, trial, onto, begin, finish, to_left, to_right}

-- a node and the two heaps below it
abbrev pub Heap : ℕ → Type 0
Heap zero = Unit {0}
Heap (suc k) = Node × Heap k × Heap k

unfoldable pub lowest : (k : ℕ) → Heap k → Element
lowest zero h = blank
lowest (suc k) h = low_elem h.0.places

-- both halves at the node, then what is left at the child, with the levels left falling
unfoldable pub act : (k : ℕ) → Op → Heap k → Heap k
act zero o h = h
act (suc k) o h =
    let b = begin o (low h.0.places) h.0 in
    let v = finish b.note b.node (lowest k h.1) (lowest k h.2) in
    (v.node, act k (to_left v) h.1, act k (to_right v) h.2)

-- ---- what it holds: how many of its elements pass a test
unfoldable pub many : (Element → Bool) → (k : ℕ) → Heap k → ℕ
many f zero h = 0
many f (suc k) h = inside f h.0.places + (many f k h.1 + many f k h.2)

-- "capacity K times (2^L − 1)": what k levels have room for
unfoldable pub room : ℕ → ℕ → ℕ
room K zero = 0
room K (suc k) = K + (room K k + room K k)

-- ---- soundness of a node over the bags of its children
-- "no element is higher in rank than one below it"
abbrev pub Ordered : List Place → Bag → Type 0
Ordered ps β = (r : ℕ) → 0 < inside (above r) ps → β (under r) ≡ 0

-- .. and "Nothing lies below a node that isn't full"
pub record Rest (ps : List Place) (β : Bag) : Type 0 where
  pub ordered : Ordered ps β
  pub packed : 0 < β always → inside always ps ≡ length ps

-- between the two halves place j may be the only empty one, and something is below
pub record Waiting (j : ℕ) (ps : List Place) (β : Bag) : Type 0 where
  pub ordered : Ordered ps β
  pub packed : suc (inside always ps) ≡ length ps
  pub here : j < length ps
  pub vacant : place_at ps j ≡ gap
  pub some : 0 < β always

-- what a note carries
abbrev pub carried : Note → Bag
carried nothing f = 0
carried (fill j) f = 0
carried (trial j x) f = 0
carried (onto s y) f = hit (f y)

abbrev pub Order : Note → List Place → Bag → Type 0
Order nothing ps β = Rest ps β
Order (fill j) ps β = Waiting j ps β
Order (trial j x) ps β = (place_at ps j ≡ has x) × Waiting j (set ps j gap) β
Order (onto s y) ps β = Rest ps β

-- a put on its way to a child is counted there already
abbrev pub owed_left : Note → ℕ
owed_left nothing = 0
owed_left (fill j) = 0
owed_left (trial j x) = 0
owed_left (onto lhs y) = 1
owed_left (onto rhs y) = 0

abbrev pub owed_right : Note → ℕ
owed_right nothing = 0
owed_right (fill j) = 0
owed_right (trial j x) = 0
owed_right (onto lhs y) = 0
owed_right (onto rhs y) = 1

-- a node with what is left to be done there, over the bags of its children
pub record Fit (K limit : ℕ) (c : Note) (n : Node) (α β : Bag) : Type 0 where
  pub size : length n.places ≡ K
  pub left : n.left ≡ owed_left c + α always
  pub right : n.right ≡ owed_right c + β always
  pub left-room : n.left ≤ limit
  pub right-room : n.right ≤ limit
  pub order : Order c n.places (λ f. carried c f + (α f + β f))

-- SOUND: nothing lies below a node that isn't full, no element is higher in rank than one below it, and the counts are true
abbrev pub Sound : ℕ → (k : ℕ) → Heap k → Type 0
Sound K zero h = Unit {0}
Sound K (suc k) h = Fit K (room K k) nothing h.0 (λ f. many f k h.1) (λ f. many f k h.2) × Sound K k h.1 × Sound K k h.2

-- ---- when an operation can be done, what it takes in and what it gives out
abbrev pub Can : ℕ → Op → Bag → Type 0
Can limit none β = Unit {0}
Can limit (put x) β = β always < limit
Can limit take β = 0 < β always
Can limit (swap x) β = 0 < β always

abbrev pub gain : Op → Bag
gain none f = 0
gain (put x) f = hit (f x)
gain take f = 0
gain (swap x) f = hit (f x)

abbrev pub loss : Op → Element → Bag
loss none e f = 0
loss (put x) e f = 0
loss take e f = hit (f e)
loss (swap x) e f = hit (f e)

-- the bag β became β' by an operation; e is the element given
abbrev pub Became : Op → Element → Bag → Bag → Type 0
Became o e β β' = (f : Element → Bool) → β' f + loss o e f ≡ β f + gain o f
