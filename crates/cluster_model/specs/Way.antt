-- An operation over the words, by node number: nodes lie level by level, so node m begins at word m times the width, and its children are nodes
-- 2m + 1 and 2m + 2. The tests for damage: of a node, of a step, and of an operation's whole path.
use Rattle.std.specs.Prelude.{◌&&◌, ◌*◌, ◌+◌, ◌||◌, ◌≤◌}
use Rattle.laws.specs.Prelude.{Bool, Element, List, blank, eqb, false, leb, length, ltb, suc, true, zero, ℕ}
use Rattle.promise.specs.Prelude.{always}
use Rattle.cluster_model.specs.Node.{inside, low, low_elem, nothing_below, Node, Side, lhs, rhs, Op, none, put, take, swap, begin, Finished, finish}
use Rattle.cluster_model.specs.Heap.{Heap, room}
use Rattle.cluster_model.specs.Words.{count_words, width, node_of, neat_place, place_words, write_node}

-- a node that has nothing to do is not written
unfoldable pub touch : Bool → List ℕ → ℕ → Node → List ℕ
touch true ws o n = write_node ws o n
touch false ws o n = ws

unfoldable pub works : Op → Bool
works none = false
works (put x) = true
works take = true
works (swap x) = true

-- ---- tests of a node's numbers
-- neither count above what a child has room for, and with something below every place is flagged
unfoldable pub strict : ℕ → Node → Bool
strict limit n = leb n.left limit && (leb n.right limit && (nothing_below n || leb (length n.places) (inside always n.places)))

-- a place is flagged
unfoldable pub some : Node → Bool
some n = ltb 0 (inside always n.places)

-- a put finds room: an empty place, or a side below its limit
unfoldable pub roomy : ℕ → Node → Bool
roomy limit n = ltb (inside always n.places) (length n.places) || (ltb n.left limit || ltb n.right limit)

-- what a child of a child has room for, with k levels below the node
unfoldable pub under1 : ℕ → ℕ → ℕ
under1 K zero = 0
under1 K (suc k) = room K k

-- the words of k levels, the first of c nodes
unfoldable pub extent : ℕ → ℕ → ℕ → ℕ
extent K zero c = 0
extent K (suc k) c = c * width K + extent K k (c + c)

abbrev pub child : ℕ → Side → ℕ
child m lhs = m + m + 1
child m rhs = m + m + 2

-- the nodes of k levels from node m on lie in a slice of this many words
abbrev pub Lies : ℕ → ℕ → ℕ → ℕ → Type 0
Lies K zero m len = Unit {0}
Lies K (suc k) m len = (m * width K + width K ≤ len) × Lies K k (child m lhs) len × Lies K k (child m rhs) len

module _ (K : ℕ) where
  abbrev pub spot_of : ℕ → ℕ
  spot_of m = m * width K

  -- node m of the store
  abbrev pub node_in : List ℕ → ℕ → Node
  node_in ws m = node_of K ws (spot_of m)

  -- the lowest of node m, of k levels left
  unfoldable pub low_in : (k : ℕ) → List ℕ → ℕ → Element
  low_in zero ws m = blank
  low_in (suc k) ws m = low_elem (node_in ws m).places

  -- the step of an operation at node m, with k levels below it
  unfoldable pub step_in : (k : ℕ) → Op → ℕ → List ℕ → Finished
  step_in k o m ws =
      let x = node_in ws m in
      let g = begin o (low x.places) x in
      finish g.note g.node (low_in k ws (child m lhs)) (low_in k ws (child m rhs))

  -- an operation done to its end: one node of each level on its path is written, from the top down
  unfoldable pub run_words : (k : ℕ) → Op → ℕ → List ℕ → List ℕ
  run_words zero o m ws = ws
  run_words (suc k) o m ws =
      let v = step_in k o m ws in
      run_words k v.op (child m v.side) (touch (works o) ws (spot_of m) v.node)

  -- ---- damage
  -- of the first n places from word o on
  unfoldable pub neat_to : List ℕ → ℕ → ℕ → Bool
  neat_to ws o zero = true
  neat_to ws o (suc n) = neat_to ws o n && neat_place ws (o + n * place_words)

  -- node m, whose children have room for limit each
  unfoldable pub node_ok : ℕ → List ℕ → ℕ → Bool
  node_ok limit ws m = neat_to ws (spot_of m + count_words) K && strict limit (node_in ws m)

  -- a child is read for its lowest only where its count is not 0, and must then have an element
  unfoldable pub read_ok : Bool → ℕ → List ℕ → ℕ → Bool
  read_ok true limit ws m = true
  read_ok false limit ws m = node_ok limit ws m && some (node_in ws m)

  unfoldable pub children_ok : (k : ℕ) → List ℕ → ℕ → Bool
  children_ok k ws m = read_ok (eqb (node_in ws m).left 0) (under1 K k) ws (child m lhs) && read_ok (eqb (node_in ws m).right 0) (under1 K k) ws (child m rhs)

  -- what a step with k levels below it reads
  unfoldable pub own_ok : (k : ℕ) → Op → ℕ → List ℕ → Bool
  own_ok k none m ws = true
  own_ok k (put x) m ws = node_ok (room K k) ws m && roomy (room K k) (node_in ws m)
  own_ok k take m ws = node_ok (room K k) ws m && children_ok k ws m
  own_ok k (swap x) m ws = node_ok (room K k) ws m && children_ok k ws m

  -- the whole path, tested before anything is written
  unfoldable pub way_ok : (k : ℕ) → Op → ℕ → List ℕ → Bool
  way_ok zero o m ws = true
  way_ok (suc k) o m ws =
      let v = step_in k o m ws in
      own_ok k o m ws && way_ok k v.op (child m v.side) ws

  -- the heap that hangs at node m
  unfoldable pub heap_in : (k : ℕ) → List ℕ → ℕ → Heap k
  heap_in zero ws m = tt
  heap_in (suc k) ws m = (node_in ws m, heap_in k ws (child m lhs), heap_in k ws (child m rhs))
