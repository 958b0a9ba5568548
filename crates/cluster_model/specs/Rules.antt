-- The rules in 02's own words: the three choices of a place, the two of a child, and the steps of put, take and swap at a node.
use Rattle.std.specs.Prelude.{◌+◌, ◌<◌, ◌≡◌, ◌≤◌, ◌⊎◌}
use Rattle.laws.specs.Prelude.{Element, List, Request, length, ℕ}
use Rattle.promise.specs.Calls as calls
pub use Rattle.promise.specs.Calls.{empty, full, idles, lacks, no-tag, puts, swaps, takes}
use Rattle.cluster_model.specs.Calls.{Ruling}
use Rattle.cluster_model.specs.Node.{begin, fewer, finish, Finished, finished, free, gap, has, high, high_elem, lhs, low, lower_side, Node, none, Op, pick, Place, place_at, put, raise, rhs, Side, sink, store, swap, take}

-- ---- places
-- "a node's first empty place"
pub record IsFree (ps : List Place) (j : ℕ) : Type 0 where
  pub empty : place_at ps j ≡ gap
  pub first : (i : ℕ) → i < j → place_at ps i ≡ gap → ⊥

-- "the lowest, first place on a tie"; "equal ranks within one node .. leave by lower tag, not by leftmost slot; leftmost remains for equal rank and tag"
pub record IsLowest (ps : List Place) (j : ℕ) (e : Element) : Type 0 where
  pub stands : place_at ps j ≡ has e
  pub least : (i : ℕ) (x : Element) → place_at ps i ≡ has x → (e.rank.0 < x.rank.0) ⊎ ((e.rank.0 ≡ x.rank.0) × (e.tag.0 ≤ x.tag.0))
  pub first : (i : ℕ) (x : Element) → i < j → place_at ps i ≡ has x → (e.rank.0 < x.rank.0) ⊎ ((e.rank.0 ≡ x.rank.0) × (e.tag.0 < x.tag.0))

-- "the node's highest rank (last place on a tie)"
pub record IsHighest (ps : List Place) (j : ℕ) (e : Element) : Type 0 where
  pub stands : place_at ps j ≡ has e
  pub most : (i : ℕ) (x : Element) → place_at ps i ≡ has x → x.rank.0 ≤ e.rank.0
  pub last : (i : ℕ) (x : Element) → j < i → place_at ps i ≡ has x → x.rank.0 < e.rank.0

-- ---- children
-- "the child that holds fewer, left on a tie"
abbrev pub Fewer : Node → Side → Type 0
Fewer n lhs = n.left ≤ n.right
Fewer n rhs = n.right < n.left

-- "the lower of the two children's lowest, left on a tie": a and b, of the children that hold something
abbrev pub Lower : Node → Element → Element → Side → Type 0
Lower n a b lhs = (0 < n.left) × ((n.right ≡ 0) ⊎ (a.rank.0 ≤ b.rank.0))
Lower n a b rhs = (0 < n.right) × ((n.left ≡ 0) ⊎ (b.rank.0 < a.rank.0))

-- ---- the steps
-- both halves of an operation at a node, one after the other
abbrev pub step_of : Op → Node → Element → Element → Finished
step_of o n a b = finish (begin o (low n.places) n).note (begin o (low n.places) n).node a b

-- "A put fills a node's first empty place and ends. Into a full node it exchanges with the node's highest rank (last place on a tie) if strictly lower,
-- and goes on to the child that holds fewer"
pub data Puts (x : Element) (n : Node) : Finished → Type 0 where
  ends : free n.places < length n.places → (s : Side) → Puts x n (finished (store (free n.places) (has x) n) s none)
  exchanges : length n.places ≤ free n.places → x.rank.0 < (high_elem n.places).rank.0
      → Puts x n (finished (raise (fewer n) (store (high n.places) (has x) n)) (fewer n) (put (high_elem n.places)))
  passes : length n.places ≤ free n.places → (high_elem n.places).rank.0 ≤ x.rank.0
      → Puts x n (finished (raise (fewer n) (store (high n.places) (has (high_elem n.places)) n)) (fewer n) (put x))

-- "A take gives the lowest ..; the gap is filled in the same place with the lower of the two children's lowest", and that child's count falls by one
pub data Takes (n : Node) (a b : Element) : Finished → Type 0 where
  clears : n.left + n.right ≡ 0 → (s : Side) → Takes n a b (finished (store (low n.places) gap n) s none)
  fills : 0 < n.left + n.right
      → Takes n a b (finished (store (low n.places) (has (pick (lower_side n a b) a b)) (sink (lower_side n a b) n)) (lower_side n a b) take)

-- 01: "The slot that a take would choose gives its element, count unchanged. At count 1, or if the lowest rank in the node below is not strictly lower than
-- x's, x stays in the slot. Otherwise the slot receives that lowest element, and the node below is swapped with x"
pub data Swaps (x : Element) (n : Node) (a b : Element) : Finished → Type 0 where
  stays : (n.left + n.right ≡ 0) ⊎ (x.rank.0 ≤ (pick (lower_side n a b) a b).rank.0) → (s : Side) → Swaps x n a b (finished (store (low n.places) (has x) n) s none)
  goes : 0 < n.left + n.right → (pick (lower_side n a b) a b).rank.0 < x.rank.0
      → Swaps x n a b (finished (store (low n.places) (has (pick (lower_side n a b) a b)) n) (lower_side n a b) (swap x))

-- ---- the calls: what a request comes to where c is the capacity, h are held and e is the root's lowest (`Comes` of `promise`)
abbrev pub Comes : ℕ → ℕ → Element → Request → Ruling → Type 0
Comes = calls.Comes none put take swap
