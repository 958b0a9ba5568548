-- What a scan of a full node says.
use Rattle.std.specs.Prelude.{◌+◌, ◌-◌, ◌<◌, ◌≡◌, ◌≤◌}
use Rattle.laws.specs.Prelude.{List, cond, true, turn, ℕ}
use Rattle.tree_node.specs.declared.full.Winner.{Winner}
use Rattle.tree_model.specs.Prelude.{is_empty, lowest, node_ok, slot_of}
use Rattle.tree_model.specs.declared.Slot.{Slot}

-- how many are below a slot's own element; for an empty slot above every room
unfoldable pub below : Slot → ℕ
below s = cond (is_empty s) 4294967295 (s.count - 1)

-- what calls of a key answer is f of the slot
abbrev pub Keys : (Slot → ℕ → Type 0) → (Slot → ℕ) → Type 0
Keys post f = (a : Slot) (n : ℕ) → post a n → n ≡ f a

-- what places win by
abbrev pub by_turn : Slot → ℕ
by_turn s = turn s.element

abbrev pub by_count : Slot → ℕ
by_count s = s.count

-- of the places from lo to hi of the node whose first slot is slot i, v is the leftmost of the lowest number, and none has more below it than `most`
pub record Wins (f : Slot → ℕ) (ws : List ℕ) (i lo hi : ℕ) (v : Winner) : Type 0 where
  pub from : lo ≤ v.place
  pub to : v.place < hi
  pub mine : v.key ≡ f (slot_of ws (i + v.place))
  pub least : (a : ℕ) → lo ≤ a → a < hi → v.key ≤ f (slot_of ws (i + a))
  pub left : (a : ℕ) → lo ≤ a → a < v.place → v.key < f (slot_of ws (i + a))
  pub under : (a : ℕ) → lo ≤ a → a < hi → below (slot_of ws (i + a)) ≤ v.most
  pub tags : (a : ℕ) → lo ≤ a → a < hi → (slot_of ws (i + a)).element.tag.0 < 4294967296

-- place p is the lowest of a node that is not damaged
pub record FullLow (m r : ℕ) (nd : List Slot) (p : ℕ) : Type 0 where
  pub inside : p < m
  pub whole : node_ok r nd ≡ true
  pub place : p ≡ lowest nd
