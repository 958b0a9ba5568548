-- What is promised of the cluster heap is said in these words: the tables of refusal, and what a list of requests leaves.
use Rattle.std.specs.Prelude.{◌<◌, ◌≡◌, ◌≤◌, ◌⊎◌}
use Rattle.laws.specs.Prelude.{Answer, BadShape, Damaged, Element, Ladder, List, NoTag, Refusal, Request, fine, get_or, length, pred, rung, stop, ℕ}
use Rattle.promise.specs.Calls as calls
use Rattle.promise.specs.Prelude.{Step, Untagged, leaves, limits}
use Rattle.cluster_model.specs.Calls.{called, cleared, held_in, rule_at}
use Rattle.cluster_model.specs.Heap.{room}
pub use Rattle.cluster_model.specs.Causes.{AnyTo, ChildDamaged, flagged, NodeDamaged, PathDamaged, PlaceDamaged, Shape, StepDamaged, Stuck}
unfoldable pub use Rattle.cluster_model.specs.Causes.{nodes, stored_count}

module _ (K : ℕ) where
  -- cause 2 of a call: the root, or the path of what the request comes to, "but none below if a later test refuses it"
  abbrev pub Damage : ℕ → Request → List ℕ → Type 0
  Damage levels r ws = NodeDamaged K (room K (pred levels)) ws 0 ⊎ PathDamaged K levels (rule_at K levels r ws).op 0 ws

-- the table, in order: 1, 2, 7, then 5 or 6
abbrev pub refusals : ℕ → ℕ → Request → List ℕ → Ladder Refusal
refusals K levels r ws =
    rung BadShape (Shape K levels (length ws))
    (stop Damaged (Damage K levels r ws)
    (stop NoTag (Untagged r)
    (limits r (held_in K levels ws) (room K levels) fine)))

-- .. of clear, and of held, which reads the root alone
abbrev pub clear_refusals : ℕ → ℕ → List ℕ → Ladder Refusal
clear_refusals K levels ws = rung BadShape (Shape K levels (length ws)) fine

abbrev pub held_refusals : ℕ → ℕ → List ℕ → Ladder Refusal
held_refusals K levels ws = rung BadShape (Shape K levels (length ws)) (stop Damaged (NodeDamaged K (room K (pred levels)) ws 0) fine)

-- "Clear writes zeros. .. of a longer one the rest is never touched", word by word
pub record Zeroed (n : ℕ) (ws vs : List ℕ) : Type 0 where
  pub length : length vs ≡ length ws
  pub zeros : (p d : ℕ) → p < n → get_or vs p d ≡ 0
  pub rest : (p d : ℕ) → n ≤ p → get_or vs p d ≡ get_or ws p d

-- two slices that agree on the first n words
abbrev pub Agree : ℕ → List ℕ → List ℕ → Type 0
Agree n ws vs = (p : ℕ) → p < n → get_or ws p 0 ≡ get_or vs p 0

-- ---- the heap as a queue: push, pop and replace on its words
abbrev pub cluster_queue : ℕ → ℕ → Request → List ℕ → Step Answer (List ℕ)
cluster_queue K levels = calls.stepping (called K levels)

-- a cleared store to begin with, whatever the words were, and the words that a list of requests leaves from there
abbrev pub start : ℕ → ℕ → List ℕ → List ℕ
start K levels ws = (cleared K levels ws).words

abbrev pub after : ℕ → ℕ → List Request → List ℕ → List ℕ
after K levels rs ws = leaves (cluster_queue K levels) rs (start K levels ws)

-- REPLACE, on the words ws
abbrev pub PopThenPush : ℕ → ℕ → Element → List ℕ → Type 0
PopThenPush K levels x ws = calls.PopThenPush (called K levels) (stored_count K levels) x ws
