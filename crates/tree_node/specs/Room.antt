-- What a step at a node asks of the words, and the numbers of a tree's shape.
use Rattle.std.specs.Prelude.{◌*◌, ◌+◌, ◌<◌, ◌≡◌, ◌≤◌}
use Rattle.laws.specs.Prelude.{Bool, Element, List, cond, leb, length, pred, suc, zero, ℕ}
use Rattle.tree_node.specs.Look.{NodeIn}
use Rattle.tree_model.specs.Prelude.{low, node_of, room, size, slot_limit, slot_words, step_ok}
use Rattle.tree_model.specs.declared.Op.TheVariants.{Take}
use Rattle.tree_model.specs.declared.Slot.{Slot}

-- the nodes below a node's places lie within the words, the first of them at slot f
abbrev pub ChildrenIn : ℕ → ℕ → List ℕ → Type 0
ChildrenIn m f ws = slot_words * (f + m * m) ≤ length ws

-- the node below place j
abbrev pub child_of : ℕ → ℕ → List ℕ → ℕ → List Slot
child_of m f ws j = node_of m ws (f + j * m)

abbrev pub low_below : ℕ → ℕ → List ℕ → ℕ → Element
low_below m f ws j = low (child_of m f ws j)

-- a node with its children, where `k` levels are below it: the room below is within the limit
pub record StepIn (m i f k : ℕ) (ws : List ℕ) : Type 0 where
  pub node : NodeIn m i ws
  pub few : m ≤ 8
  pub limit : room m k ≤ slot_limit
  pub children : 1 ≤ k → ChildrenIn m f ws

-- k levels, the first of c nodes at slot b, lie within the words and within the limit, and node n is one of the first level's
pub record Lies (m k b c n : ℕ) (ws : List ℕ) : Type 0 where
  pub order : 0 < m
  pub few : m ≤ 8
  pub node : n < c
  pub words : slot_words * (b + size m k c) ≤ length ws
  pub small : b + size m k c ≤ slot_limit

-- the tests of a take or a swap
unfoldable pub lift_ok : ℕ → ℕ → List Slot → (ℕ → List Slot) → Bool
lift_ok m k nd child = step_ok m k Take nd child

-- the count of slots, level by level, stops once it is above the limit
unfoldable pub slots_counted : ℕ → ℕ → ℕ
slots_counted m zero = 0
slots_counted m (suc k) = cond (leb (slots_counted m k) slot_limit) (m * suc (slots_counted m k)) (slots_counted m k)

-- what the capacity's count says
pub record Capacity (m levels r : ℕ) : Type 0 where
  pub within : room m levels ≤ slot_limit → r ≡ room m levels
  pub above : slot_limit < room m levels → slot_limit < r

-- .. and the room of the next level by this one's
abbrev pub RoomUnder : ℕ → ℕ → ℕ → Type 0
RoomUnder m r u = (k : ℕ) → r ≡ room m k → u ≡ room m (pred k)
