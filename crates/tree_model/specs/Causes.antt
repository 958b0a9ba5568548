-- The causes of refusal in 01's words, and what stands in a store.
use Rattle.std.specs.Prelude.{◌*◌, ◌+◌, ◌<◌, ◌≡◌, ◌≤◌, ◌⊎◌}
use Rattle.laws.specs.Prelude.{All, Any, Bool, Element, List, Zeros, [], get_or, length, pred, suc, sum_to, zero, ℕ}
use Rattle.tree_model.specs.Damage.{room}
use Rattle.tree_model.specs.Levels.{Level, Levels, step_work, top}
use Rattle.tree_model.specs.Node.{lowest, slot_at}
use Rattle.tree_model.specs.Tree.{own}
use Rattle.tree_model.specs.Words.{slot_of}
use Rattle.tree_model.specs.declared.Op.{Op}
use Rattle.tree_model.specs.declared.Op.TheVariants.{Nothing, Put, Swap, Take}
use Rattle.tree_model.specs.declared.Slot.{Slot}
use Rattle.tree_model.specs.declared.Work.{Work}

-- ---- causes: column "Exactly when" of the table of refusals
-- what a shape must be, in the numbers of 01 and 02 [7]; anything else is cause 1
pub record Shape (m levels len : ℕ) : Type 0 where
  pub order : (m ≡ 2) ⊎ (m ≡ 4) ⊎ (m ≡ 8)
  pub some : 1 ≤ levels
  pub capacity : room m levels ≤ 87380
  pub slice : 4 * room m levels ≤ len

-- "a count above one plus the room below it, or a slot with count 0 and another word not 0"
abbrev pub SlotDamaged : ℕ → Slot → Type 0
SlotDamaged r s = (suc r < s.count) ⊎ ((s.count ≡ 0) × (Zeros s.element → ⊥))

abbrev pub NodeDamaged : ℕ → List Slot → Type 0
NodeDamaged r nd = Any (SlotDamaged r) nd

-- "a put finds every count at one plus the room below it, or a take, swap or read for the lowest an empty node"
abbrev pub Stuck : Op → ℕ → List Slot → Type 0
Stuck Nothing r nd = ⊥
Stuck (Put x) r nd = All (λ s. s.count ≡ suc r) nd
Stuck Take r nd = All (λ s. s.count ≡ 0) nd
Stuck (Swap x) r nd = All (λ s. s.count ≡ 0) nd

-- a node that an operation works at, or that is read for its lowest
abbrev pub ReadDamaged : Op → ℕ → List Slot → Type 0
ReadDamaged Nothing r nd = ⊥
ReadDamaged (Put x) r nd = NodeDamaged r nd ⊎ Stuck (Put x) r nd
ReadDamaged Take r nd = NodeDamaged r nd ⊎ Stuck Take r nd
ReadDamaged (Swap x) r nd = NodeDamaged r nd ⊎ Stuck (Swap x) r nd

-- a take or swap reads the node below where the chosen count is above 1
abbrev pub Lifts : Op → List Slot → Type 0
Lifts Nothing nd = ⊥
Lifts (Put x) nd = ⊥
Lifts Take nd = 1 < (slot_at nd (lowest nd)).count
Lifts (Swap x) nd = 1 < (slot_at nd (lowest nd)).count

-- is there something to do?
abbrev pub IsWork : Op → Type 0
IsWork Nothing = ⊥
IsWork (Put x) = Unit {0}
IsWork Take = Unit {0}
IsWork (Swap x) = Unit {0}

module _ (m : ℕ) where
  abbrev pub StepDamaged : ℕ → Op → List Slot → (ℕ → List Slot) → Type 0
  StepDamaged k o nd child = ReadDamaged o (room m k) nd ⊎ (Lifts o nd × ReadDamaged Take (room m (pred k)) (child (lowest nd)))

  -- work for a level that has k levels below it: a node that "its level lacks", or a step that meets damage
  abbrev pub WorkDamaged : ℕ → Work → Level → Level → Type 0
  WorkDamaged k w l next =
      IsWork w.op × ((length l ≤ w.node) ⊎ StepDamaged k w.op (get_or l w.node []) (λ j. get_or next (w.node * m + j) []))

  -- "An operation asked for reads the root, and nodes below as its rules reach them"
  abbrev pub PathDamaged : (k : ℕ) → Work → Levels k → Type 0
  PathDamaged zero w ls = ⊥
  PathDamaged (suc k) w ls = WorkDamaged k w ls.0 (top k ls.1) ⊎ PathDamaged k (step_work m w ls.0 (top k ls.1)) ls.1

-- ---- what a store holds
-- how many of the first n slots hold an element that passes the test
unfoldable pub stored_count : ℕ → List ℕ → (Element → Bool) → ℕ
stored_count n ws f = sum_to n (λ i. own f (slot_of ws i))
