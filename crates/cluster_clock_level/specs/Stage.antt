-- What a level does in a cycle, as the code hands it on, and what the two halves of a level's cycle ask and leave. A level's first node is number a of the
-- store, and it has a + 1 of them.
use Rattle.std.specs.Prelude.{◌&&◌, ◌*◌, ◌+◌, ◌<◌, ◌≡◌, ◌≤◌}
use Rattle.laws.specs.Prelude.{Bool, List, eqb, false, length, not, suc, ℕ}
use Rattle.promise.specs.Prelude.{always}
use Rattle.cluster_clock_model.specs.Prelude.{Work, below, child_of, gives_ok, loaded, sane_at, settled, stage_ok, work}
use Rattle.cluster_clock_model.specs.declared.Due.{Due}
use Rattle.cluster_clock_model.specs.declared.Due.TheVariants as due
use Rattle.cluster_clock_model.specs.declared.Stage.{Stage}
use Rattle.cluster_model.specs.Prelude.{Neat, Note, Op, begin, child, inside, lhs, low, node_in, none, nothing_below, put, rhs, room, spot_of, swap, take, touch, width, word, works, write_node}
use Rattle.cluster_node.specs.Leaf.{bare_at, Here}
use Rattle.cluster_clock_level.specs.declared.Job.{Job}
use Rattle.cluster_clock_level.specs.declared.Job.TheVariants.{Put, Rest, Swap, Take}
use Rattle.cluster_clock_level.specs.declared.Task.{Task}

-- ---- the work of a level
unfoldable pub op_of : Job → Op
op_of Rest = none
op_of (Put y) = put y
op_of Take = take
op_of (Swap x) = swap x

abbrev pub work_of : Task → Work
work_of t = work (op_of t.job) t.node

-- place j of node m is its lowest, and holds something
pub record Lowest (K m j : ℕ) (ws : List ℕ) : Type 0 where
  pub place : j ≡ low (node_in K ws m).places
  pub held : 0 < inside always (node_in K ws m).places

-- a take and a swap give from the lowest place
abbrev pub GivesBy : Job → ℕ → ℕ → ℕ → List ℕ → Type 0
GivesBy Rest K m j ws = Unit {0}
GivesBy (Put y) K m j ws = Unit {0}
GivesBy Take K m j ws = Lowest K m j ws
GivesBy (Swap x) K m j ws = Lowest K m j ws

abbrev pub Gives : ℕ → ℕ → Task → List ℕ → Type 0
Gives K a t ws = GivesBy t.job K (a + t.node) t.place ws

-- ---- A: what is pending is settled
-- node m and its children lie within the words
abbrev pub Three : ℕ → ℕ → ℕ → Type 0
Three K m len = Here K m len × Here K (m + m + 1) len × Here K (m + m + 2) len

-- node m waits at place j: something lies below it, and a child whose count is not 0 holds something
pub record Waits (K m j : ℕ) (ws : List ℕ) : Type 0 where
  pub lies : Three K m (length ws)
  pub neat : Neat K ws (m * width K)
  pub place : j < K
  pub more : bare_at ws (m * width K) ≡ false
  pub left : (word ws (m * width K) ≡ 0 → ⊥) → 0 < inside always (node_in K ws (child m lhs)).places
  pub right : (word ws (m * width K + 1) ≡ 0 → ⊥) → 0 < inside always (node_in K ws (child m rhs)).places

-- a record that names a node that waits
abbrev pub Pends : Due → ℕ → ℕ → List ℕ → Type 0
Pends due.Nothing K m ws = Unit {0}
Pends (due.Put y) K m ws = Unit {0}
Pends (due.Fill j) K m ws = Waits K m j ws
Pends (due.Swap j x) K m ws = Waits K m j ws

-- the note c at node n of the level, settled: the words, and what the level below has to do
pub record Settles (K a n : ℕ) (c : Note) (ws ws₁ : List ℕ) (t : Task) : Type 0 where
  pub words : ws₁ ≡ write_node ws (spot_of K (a + n)) (settled K c (a + n) ws).node
  pub task : work_of t ≡ work (settled K c (a + n) ws).op (child_of n (settled K c (a + n) ws).side)
  pub gives : Gives K (below a) t ws

-- ---- B: the level's work is begun
-- node m can be worked at: it lies within the words, is neat, and its counts are small
pub record Sited (K m : ℕ) (ws : List ℕ) : Type 0 where
  pub lies : Here K m (length ws)
  pub neat : Neat K ws (m * width K)
  pub left : word ws (m * width K) ≤ 5460
  pub right : word ws (m * width K + 1) ≤ 5460

abbrev pub Works : Job → ℕ → ℕ → ℕ → List ℕ → Type 0
Works Rest K m j ws = Unit {0}
Works (Put y) K m j ws = Sited K m ws
Works Take K m j ws = Sited K m ws × (j < K)
Works (Swap x) K m j ws = Sited K m ws × (j < K)

-- the operation o at node n of the level, with place j to give: the words, and the record that it loads
pub record Begins (K a n j : ℕ) (o : Op) (ws ws₁ : List ℕ) (q : Stage) : Type 0 where
  pub words : ws₁ ≡ touch (works o) ws (spot_of K (a + n)) (begin o j (node_in K ws (a + n))).node
  pub stage : q ≡ loaded (begin o j (node_in K ws (a + n))).note n

-- ---- the tests
-- a node that waits, by the room of a child and of a child's child
unfoldable pub wait_by : ℕ → ℕ → ℕ → ℕ → List ℕ → Bool
wait_by K limit deeper m ws =
    sane_at K limit ws m
    && (not (nothing_below (node_in K ws m)) && (gives_ok K (eqb (node_in K ws m).left 0) deeper ws (child m lhs) && gives_ok K (eqb (node_in K ws m).right 0) deeper ws (child m rhs)))

-- the level's nodes and the next level's lie within the words
pub record LevelIn (K a len : ℕ) : Type 0 where
  pub some : 1 < K
  pub few : K ≤ 16
  pub nodes : below (below a) ≤ 5460
  pub words : below (below a) * width K ≤ len

-- the test of a record below the level, where limit is the room of a child of one of its nodes
abbrev pub StageTest : ℕ → ℕ → ℕ → Stage → List ℕ → Bool → Type 0
StageTest K limit a q ws t = (k : ℕ) → limit ≡ room K (suc k) → t ≡ stage_ok K k q.due q.node a ws
