-- What a step that is looked at before it is done says of its node.
use Rattle.std.specs.Prelude.{Option, ◌&&◌, ◌+◌, ◌-◌, ◌<◌, ◌||◌, ◌≡◌, ◌≤◌, IfSome, is_some}
use Rattle.laws.specs.Prelude.{Bool, Element, List, blank, cond, key, leb, ltb, not, pred, suc, ℕ}
use Rattle.tree_node.specs.Room.{child_of, ChildrenIn}
use Rattle.tree_node.specs.Look.{NodeIn}
use Rattle.tree_model.specs.Prelude.{has_some, is_empty, keep, low, move, node_move, node_of, node_ok, pass, room, slot_limit, slot_of, step_ok}
use Rattle.tree_model.specs.declared.Move.{Move}
use Rattle.tree_model.specs.declared.Op.{Op}
use Rattle.tree_model.specs.declared.Op.TheVariants.{Nothing, Put, Swap, Take}
use Rattle.tree_model.specs.declared.Slot.{Slot}

-- slot a at place j is the one that is chosen, place p of the node at slot i
pub record Chosen (m i : ℕ) (ws : List ℕ) (p j : ℕ) (a : Slot) : Type 0 where
  pub place : j ≡ p
  pub inside : j < m
  pub read : a ≡ slot_of ws (i + j)

-- ---- the steps at a chosen slot a at place j; `below` is the node below it
unfoldable pub put_from : ℕ → Slot → Element → Move
put_from j a x = cond (is_empty a) (move j x 1 Nothing) (move j (keep x a.element) (suc a.count) (Put (pass x a.element)))

unfoldable pub take_from : ℕ → Slot → List Slot → Move
take_from j a below = cond (leb a.count 1) (move j blank 0 Nothing) (move j (low below) (a.count - 1) Take)

unfoldable pub swap_from : ℕ → Slot → List Slot → Element → Move
swap_from j a below x =
    cond (leb a.count 1 || not (ltb (key (low below)) (key x))) (move j x a.count Nothing) (move j (low below) a.count (Swap x))

-- a take or swap reads the node below where the count is above 1; there is room for r below each of its slots
unfoldable pub lifts_ok : ℕ → Slot → List Slot → Bool
lifts_ok r a below = leb a.count 1 || (node_ok r below && has_some below)

-- ---- a node at slot i whose slots have room for r below them, and, where that is any, the nodes below it from slot f, with room for u
pub record PlanIn (m i f r u : ℕ) (ws : List ℕ) : Type 0 where
  pub node : NodeIn m i ws
  pub few : m ≤ 8
  pub limit : r ≤ slot_limit
  pub deeper : u ≤ slot_limit
  pub children : 1 ≤ r → ChildrenIn m f ws

-- a plan of an operation's step there: whatever number of levels has this room, there is one where the test for damage is passed, and it is the step
abbrev pub Planned : ℕ → ℕ → ℕ → Op → ℕ → ℕ → List ℕ → Option Move → Type 0
Planned m r u o i f ws p =
    (k : ℕ) → r ≡ room m k → u ≡ room m (pred k) → (is_some p ≡ step_ok m k o (node_of m ws i) (child_of m f ws)) × IfSome p (λ v. v ≡ node_move m o i f ws)
