-- The five calls of the one-at-a-time tree, each a total function of order, levels and words to an answer and the words afterwards: what the tree brings, to the calls that every queue has (`promise/specs/Calls.antt`).
use Rattle.std.specs.Prelude.{◌&&◌, ◌*◌, ◌||◌}
use Rattle.laws.specs.Prelude.{Answer, BadShape, Bool, Idle, List, Pop, Push, Replace, Request, eqb, leb, length, pred, ℕ, Result, Refusal}
use Rattle.promise.specs.Calls as calls
use Rattle.promise.specs.Prelude.{Queue, ends, last_table, needs}
use Rattle.tree_model.specs.declared.Slot.{Slot}
use Rattle.tree_model.specs.declared.Op.{Op}
use Rattle.tree_model.specs.declared.Op.TheVariants.{Nothing, Put, Take, Swap}
use Rattle.tree_model.specs.Causes.{NodeDamaged, PathDamaged, Shape, stored_count}
use Rattle.tree_model.specs.Node.{sum_counts, low}
use Rattle.tree_model.specs.Levels.{work}
use Rattle.tree_model.specs.Words.{slot_words, node_of, levels_of, apply_words, wipe}
use Rattle.tree_model.specs.Damage.{room, node_ok, path_ok}

-- ---- the shape
-- "Capacity .. is at most 5,460 here"; "Trees go up to 87,380 slots (order 4, 8 levels)" (02 [7])
abbrev pub slot_limit : ℕ
slot_limit = 87380

-- "Order M is 2, 4 or 8"
unfoldable pub order_ok : ℕ → Bool
order_ok m = eqb m 2 || (eqb m 4 || eqb m 8)

-- "Levels L at least 1", the capacity within the limit, and a slice that holds it: "A shorter slice is refused"
unfoldable pub shape_ok : ℕ → ℕ → ℕ → Bool
shape_ok m levels len = order_ok m && (leb 1 levels && (leb (room m levels) slot_limit && leb (slot_words * room m levels) len))

-- ---- what a request comes to at a root that is in order: its answer, and the work at node 0
abbrev pub Ruling : Type 0
Ruling = calls.Ruling Op

abbrev pub ruling : Answer → Op → Ruling
ruling a o = calls.ruling a o

-- "Push puts at the root, pop takes there". Replace is a pop and then a push (02 [4]): "the new one is swapped in by the same swap rule"
abbrev pub op_of : Request → Op
op_of Idle = Nothing
op_of (Push x) = Put x
op_of Pop = Take
op_of (Replace x) = Swap x

-- 7, then 5 or 6; else the lowest of the root is answered, and the operation done. c is the capacity
unfoldable pub rule : ℕ → Request → List Slot → Ruling
rule c r nd = calls.ruled op_of (last_table r (sum_counts nd) c) r (low nd)

-- ---- the calls
abbrev pub Outcome : Type 0
Outcome = calls.Outcome (List ℕ)

abbrev pub outcome : Answer → List ℕ → Outcome
outcome a ws = calls.outcome a ws

-- the root's slots
abbrev pub root_of : ℕ → List ℕ → List Slot
root_of m ws = node_of m ws 0

module _ (m levels : ℕ) where
  -- the root passes test 2
  abbrev pub root_ok : List ℕ → Bool
  root_ok ws = node_ok (room m (pred levels)) (root_of m ws)

  abbrev pub rule_at : Request → List ℕ → Ruling
  rule_at r ws = rule (room m levels) r (root_of m ws)

  -- the whole path of a request's work is in order
  abbrev pub way_ok : Op → List ℕ → Bool
  way_ok o ws = path_ok m levels (work o 0) (levels_of m levels ws 0 1)

  -- the tree as a queue that does one operation at a time: "Order for the tree: 1, 2, 3, then 5 or 6"; 7 comes "after 3 in the clocked tree, after 2 in the one-at-a-time tree"
  abbrev pub tree : Queue (List ℕ)
  tree =
      record {
        opening = λ ws. needs BadShape (shape_ok m levels (length ws)) (Shape m levels (length ws)) ends;
        clearing = λ ws. needs BadShape (shape_ok m levels (length ws)) (Shape m levels (length ws)) ends;
        asked = λ r ws. ends;
        root_ok = root_ok;
        RootDamaged = λ ws. NodeDamaged (room m (pred levels)) (root_of m ws);
        held = λ ws. sum_counts (root_of m ws);
        low = λ ws. low (root_of m ws);
        late = λ r ws. last_table r (sum_counts (root_of m ws)) (room m levels);
        Op = Op;
        op = op_of;
        way_ok = way_ok;
        WayDamaged = λ o ws. PathDamaged m levels (work o 0) (levels_of m levels ws 0 1);
        run = λ o ws. apply_words m levels (work o 0) 0 1 ws;
        wipe = λ ws. wipe (room m levels) ws;
        stored = λ ws. stored_count (room m levels) ws;
      }

  -- push, pop and replace
  unfoldable pub called : Request → List ℕ → Outcome
  called r ws = calls.called tree r ws

  -- "Clear writes zeros"
  unfoldable pub cleared : List ℕ → Outcome
  cleared ws = calls.cleared tree ws

  -- "Held for a tree is the sum of the root's counts, taken once the root passes test 2; the call held reads the root alone"
  unfoldable pub held_count : List ℕ → Result ℕ Refusal
  held_count ws = calls.held_count tree ws
