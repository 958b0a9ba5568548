-- What is promised of the tree is said in these words: 01's tables of refusal, and what a list of requests leaves.
use Rattle.std.specs.Prelude.{◌*◌, ◌+◌, ◌<◌, ◌≡◌, ◌≤◌, ◌⊎◌}
use Rattle.laws.specs.Prelude.{Answer, BadShape, Damaged, Element, Ladder, List, NoTag, Refusal, Request, [], element, fine, get_or, length, pred, rung, stop, suc, zero, ℕ}
use Rattle.promise.specs.Calls as calls
use Rattle.promise.specs.Prelude.{Step, Untagged, leaves, limits}
use Rattle.tree_model.specs.Calls.{called, cleared, root_of, rule_at}
use Rattle.tree_model.specs.Damage.{room}
use Rattle.tree_model.specs.Levels.{Level, Levels, work}
use Rattle.tree_model.specs.Node.{sum_counts}
use Rattle.tree_model.specs.Words.{levels_of}
use Rattle.tree_model.specs.declared.Slot.{Slot}
pub use Rattle.tree_model.specs.Causes.{Lifts, NodeDamaged, PathDamaged, ReadDamaged, Shape, SlotDamaged, IsWork, StepDamaged, Stuck, WorkDamaged}
unfoldable pub use Rattle.tree_model.specs.Causes.{stored_count}

module _ (m : ℕ) where
  -- cause 2 of a call: the root, or the path of what the request comes to, "but none below if a later test refuses it"
  abbrev pub Damage : ℕ → Request → List ℕ → Type 0
  Damage levels r ws =
      NodeDamaged (room m (pred levels)) (root_of m ws) ⊎ PathDamaged m levels (work (rule_at m levels r ws).op 0) (levels_of m levels ws 0 1)

-- the table, in order: "Order for the tree: 1, 2, 3, then 5 or 6", and 7 "after 2 in the one-at-a-time tree". 3 is the clocked tree's, and 4 the
-- bucket queue's
abbrev pub refusals : ℕ → ℕ → Request → List ℕ → Ladder Refusal
refusals m levels r ws =
    rung BadShape (Shape m levels (length ws))
    (stop Damaged (Damage m levels r ws)
    (stop NoTag (Untagged r)
    (limits r (sum_counts (root_of m ws)) (room m levels) fine)))

-- .. of clear, and of held: "the call held reads the root alone"
abbrev pub clear_refusals : ℕ → ℕ → List ℕ → Ladder Refusal
clear_refusals m levels ws = rung BadShape (Shape m levels (length ws)) fine

abbrev pub held_refusals : ℕ → ℕ → List ℕ → Ladder Refusal
held_refusals m levels ws = rung BadShape (Shape m levels (length ws)) (stop Damaged (NodeDamaged (room m (pred levels)) (root_of m ws)) fine)

-- ---- where the words stand
-- level i of a store, the topmost is 0
unfoldable pub level_at : (k : ℕ) → Levels k → ℕ → Level
level_at zero ls i = []
level_at (suc k) ls zero = ls.0
level_at (suc k) ls (suc i) = level_at k ls.1 i

-- "four words, with length before count": slot i of the slice
abbrev pub four_words : List ℕ → ℕ → Slot
four_words ws i = record { element = element (get_or ws (4 * i) 0) (get_or ws (4 * i + 1) 0) (get_or ws (4 * i + 2) 0); count = get_or ws (4 * i + 3) 0 }

-- "Clear writes zeros. .. of a longer one the rest is never touched", word by word
pub record Zeroed (n : ℕ) (ws vs : List ℕ) : Type 0 where
  pub length : length vs ≡ length ws
  pub zeros : (p d : ℕ) → p < 4 * n → get_or vs p d ≡ 0
  pub rest : (p d : ℕ) → 4 * n ≤ p → get_or vs p d ≡ get_or ws p d

-- two slices that agree on the words of n slots
abbrev pub Agree : ℕ → List ℕ → List ℕ → Type 0
Agree n ws vs = (p : ℕ) → p < 4 * n → get_or ws p 0 ≡ get_or vs p 0

-- ---- the tree as a queue: push, pop and replace on its words
abbrev pub tree_queue : ℕ → ℕ → Request → List ℕ → Step Answer (List ℕ)
tree_queue m levels = calls.stepping (called m levels)

-- a cleared store to begin with, whatever the words were, and the words that a list of requests leaves from there
abbrev pub start : ℕ → ℕ → List ℕ → List ℕ
start m levels ws = (cleared m levels ws).words

abbrev pub after : ℕ → ℕ → List Request → List ℕ → List ℕ
after m levels rs ws = leaves (tree_queue m levels) rs (start m levels ws)

-- REPLACE, on the words ws
abbrev pub PopThenPush : ℕ → ℕ → Element → List ℕ → Type 0
PopThenPush m levels x ws = calls.PopThenPush (called m levels) (stored_count (room m levels)) x ws
