-- One cycle over the words and the records: one pass in place, from the root down. A level is read before it is written, the level below is read as it
-- stood at the cycle's start, and each level writes its own nodes and loads the record below it.
use Rattle.std.specs.Prelude.{◌+◌, ◌∷◌}
use Rattle.laws.specs.Prelude.{Bool, Element, List, blank, element_numbers, false, get_or, set, suc, true, zero, ℕ}
use Rattle.cluster_clock_model.specs.declared.Due.{Due}
use Rattle.cluster_clock_model.specs.declared.Due.TheVariants.{Fill, Nothing, Put, Swap}
use Rattle.cluster_clock_model.specs.declared.Stage.{Stage}
use Rattle.cluster_model.specs.Prelude.{Begun, Finished, Note, Op, Side, begin, child, fill, finish, lhs, low, low_elem, node_in, none, nothing, onto, put, rhs, spot_of, touch, trial, works}

-- ---- records
abbrev pub stage : Due → ℕ → Stage
stage d n = record { due = d; node = n }

-- "Numbers that a kind does not use are written 0"
abbrev pub no_stage : Stage
no_stage = stage Nothing 0

-- the record that stands between level i and the next; the topmost level is 0
abbrev pub stage_at : List Stage → ℕ → Stage
stage_at rs i = get_or rs i no_stage

-- a gap to be filled, or an element on trial, at the node of the upper level
abbrev pub note_of : Due → Note
note_of Nothing = nothing
note_of (Put y) = nothing
note_of (Fill j) = fill j
note_of (Swap j x) = trial j x

abbrev pub waits : Due → Bool
waits Nothing = false
waits (Put y) = false
waits (Fill j) = true
waits (Swap j x) = true

-- a record as six numbers: kind (0 nothing, 1 put, 2 fill, 3 swap), node, place, rank, tag, length. "Numbers that a kind does not use are written 0"
abbrev pub numbers_from : Due → ℕ → List ℕ
numbers_from Nothing n = 0 ∷ 0 ∷ 0 ∷ element_numbers blank
numbers_from (Put y) n = 1 ∷ n ∷ 0 ∷ element_numbers y
numbers_from (Fill j) n = 2 ∷ n ∷ j ∷ element_numbers blank
numbers_from (Swap j x) n = 3 ∷ n ∷ j ∷ element_numbers x

abbrev pub stage_numbers : Stage → List ℕ
stage_numbers q = numbers_from q.due q.node

-- ---- a level: its first node is number a of the store, and it has a + 1 of them; node n of it is number a + n, and its children are nodes 2n and 2n + 1 of
-- the next level, whose first is number 2a + 1
abbrev pub below : ℕ → ℕ
below a = a + a + 1

abbrev pub child_of : ℕ → Side → ℕ
child_of n lhs = n + n
child_of n rhs = suc (n + n)

-- what is to be done at a node of a level
pub record Work : Type 0 where
  pub op : Op
  pub node : ℕ

abbrev pub work : Op → ℕ → Work
work o n = record { op = o; node = n }

-- what an operation leaves at node n for the record below
unfoldable pub loaded : Note → ℕ → Stage
loaded nothing n = no_stage
loaded (fill j) n = stage (Fill j) n
loaded (trial j x) n = stage (Swap j x) n
loaded (onto s y) n = stage (Put y) (child_of n s)

module _ (K : ℕ) where
  -- the lowest of node m, as it stands
  abbrev pub low_at : List ℕ → ℕ → Element
  low_at ws m = low_elem (node_in K ws m).places

  -- what a note at node m comes to, by the lowest of its children
  unfoldable pub settled : Note → ℕ → List ℕ → Finished
  settled c m ws = finish c (node_in K ws m) (low_at ws (child m lhs)) (low_at ws (child m rhs))

  -- A, the gap of the cycle before: "a gap filled from below one cycle later"
  unfoldable pub filled : ℕ → Stage → List ℕ → List ℕ
  filled a q ws = touch (waits q.due) ws (spot_of K (a + q.node)) (settled (note_of q.due) (a + q.node) ws).node

  -- .. and what the level below has to do: a put is done there; of a node that waits the chosen child gives its lowest
  unfoldable pub handed : Due → ℕ → ℕ → List ℕ → Work
  handed Nothing n a ws = work none 0
  handed (Put y) n a ws = work (put y) n
  handed (Fill j) n a ws = let v = settled (fill j) (a + n) ws in work v.op (child_of n v.side)
  handed (Swap j x) n a ws = let v = settled (trial j x) (a + n) ws in work v.op (child_of n v.side)

  -- B, the work: begun at its node as A leaves it, vs, but giving from the place that was the lowest at the cycle's start
  unfoldable pub begins : ℕ → Work → List ℕ → List ℕ → Begun
  begins a w ws vs = begin w.op (low (node_in K ws (a + w.node)).places) (node_in K vs (a + w.node))

  unfoldable pub worked : ℕ → Work → List ℕ → List ℕ → List ℕ
  worked a w ws vs = touch (works w.op) vs (spot_of K (a + w.node)) (begins a w ws vs).node

  -- a level: A, then B; and the record below it is what B leaves
  unfoldable pub level_words : ℕ → Work → Stage → List ℕ → List ℕ
  level_words a w q ws = worked a w ws (filled a q ws)

  unfoldable pub level_stage : ℕ → Work → Stage → List ℕ → Stage
  level_stage a w q ws = loaded (begins a w ws (filled a q ws)).note w.node

  -- ---- all levels
  pub record Passed : Type 0 where
    pub words : List ℕ
    pub records : List Stage

  -- so many levels below the one whose first node is a, with the work w to be done there; record i is the one below it. The last level has none below
  unfoldable pub pass : (k : ℕ) → ℕ → Work → ℕ → List Stage → List ℕ → Passed
  pass zero a w i rs ws = record { words = worked a w ws ws; records = rs }
  pass (suc k) a w i rs ws =
      let q = stage_at rs i in
      pass k (below a) (handed q.due q.node a ws) (suc i) (set rs i (level_stage a w q ws)) (level_words a w q ws)
