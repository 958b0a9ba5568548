-- The tests for damage: of a slot, a node, a step, and of an operation's whole path.
use Rattle.std.specs.Prelude.{◌&&◌, ◌*◌, ◌+◌, ◌||◌}
use Rattle.laws.specs.Prelude.{Bool, List, [], eqb, false, get_or, leb, length, ltb, not, pred, suc, true, zero, ℕ}
unfoldable pub use Rattle.strip.specs.Words.{is_blank}
use Rattle.tree_model.specs.declared.Slot.{Slot}
use Rattle.tree_model.specs.declared.Op.{Op}
use Rattle.tree_model.specs.declared.Op.TheVariants.{Nothing, Put, Take, Swap}
use Rattle.tree_model.specs.declared.Work.{Work}
use Rattle.tree_model.specs.Node.{is_empty, every, slot_at, lowest, is_nothing}
use Rattle.tree_model.specs.Levels.{Level, Levels, top, step_work}

-- how many elements k levels under one slot hold: "Capacity is M + M² + … + M^L"
unfoldable pub room : ℕ → ℕ → ℕ
room m zero = 0
room m (suc k) = m * suc (room m k)

-- a slot over room for r: not "a count above one plus the room below it", nor "count 0 and another word not 0"
unfoldable pub slot_ok : ℕ → Slot → Bool
slot_ok r s = leb s.count (suc r) && (not (is_empty s) || is_blank s.element)

unfoldable pub node_ok : ℕ → List Slot → Bool
node_ok r nd = every (slot_ok r) nd

-- not "a put finds every count at one plus the room below it"
unfoldable pub has_room : ℕ → List Slot → Bool
has_room r nd = not (every (λ s. eqb s.count (suc r)) nd)

-- not "a take, swap or read for the lowest an empty node"
unfoldable pub has_some : List Slot → Bool
has_some nd = not (every is_empty nd)

-- the node that an operation works at
unfoldable pub read_ok : Op → ℕ → List Slot → Bool
read_ok Nothing r nd = true
read_ok (Put x) r nd = node_ok r nd && has_room r nd
read_ok Take r nd = node_ok r nd && has_some nd
read_ok (Swap x) r nd = node_ok r nd && has_some nd

-- does it read the node below?
unfoldable pub lifts : Op → List Slot → Bool
lifts Nothing nd = false
lifts (Put x) nd = false
lifts Take nd = not (leb (slot_at nd (lowest nd)).count 1)
lifts (Swap x) nd = not (leb (slot_at nd (lowest nd)).count 1)

module _ (m : ℕ) where
  -- what a step reads with k levels below it: its node, and the node below the chosen place where it lifts from there
  unfoldable pub step_ok : ℕ → Op → List Slot → (ℕ → List Slot) → Bool
  step_ok k o nd child = read_ok o (room m k) nd && (not (lifts o nd) || read_ok Take (room m (pred k)) (child (lowest nd)))

  -- a level's work: nothing, or work at a node that the level has and whose step is in order
  unfoldable pub work_ok : ℕ → Work → Level → Level → Bool
  work_ok k w l below =
      is_nothing w.op || (ltb w.node (length l) && step_ok k w.op (get_or l w.node []) (λ j. get_or below (w.node * m + j) []))

  -- "One-at-a-time calls test the whole path before writing"
  unfoldable pub path_ok : (k : ℕ) → Work → Levels k → Bool
  path_ok zero w ls = true
  path_ok (suc k) w ls = work_ok k w ls.0 (top k ls.1) && path_ok k (step_work m w ls.0 (top k ls.1)) ls.1
