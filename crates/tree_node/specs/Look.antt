-- What a scan of a node asks of the words, and what it finds.
use Rattle.std.specs.Prelude.{◌&&◌, ◌*◌, ◌+◌, ◌<◌, ◌≡◌, ◌≤◌, None, Option, Some}
use Rattle.laws.specs.Prelude.{List, cond, length, turn, ℕ}
use Rattle.tree_model.specs.Prelude.{has_some, is_empty, least_count, lowest, node_ok, slot_at, slot_words}
use Rattle.tree_model.specs.declared.Slot.{Slot}

-- a node of m slots lies within the words
pub record NodeIn (m i : ℕ) (ws : List ℕ) : Type 0 where
  pub order : 0 < m
  pub words : slot_words * (i + m) ≤ length ws

-- ---- above every count
abbrev pub most : ℕ
most = 4294967296

-- ---- the turn of an occupied slot's element; for an empty one the highest number, which is the turn of rank and tag 4,294,967,295 too
abbrev pub highest : ℕ
highest = 18446744073709551615

unfoldable pub turn_or : Slot → ℕ
turn_or s = cond (is_empty s) highest (turn s.element)

-- what a scan by turns says: a place of the node is the lowest; the order stands for it that no turn is below the highest
pub record Led (nd : List Slot) (p : ℕ) : Type 0 where
  pub found : p < length nd → p ≡ lowest nd
  pub none : length nd ≤ p → (a : ℕ) → a < length nd → 0 < (slot_at nd a).count → ((slot_at nd a).element.rank.0 ≡ 4294967295) × ((slot_at nd a).element.tag.0 ≡ 4294967295)

-- the first occupied place, the order where there is none
pub record FirstFilled (nd : List Slot) (p : ℕ) : Type 0 where
  pub within : p ≤ length nd
  pub here : p < length nd → 0 < (slot_at nd p).count
  pub left : (a : ℕ) → a < p → (slot_at nd a).count ≡ 0

-- the place that a take, a swap or a read for the lowest chooses in a node that is not damaged and holds something, and a put in one that is not damaged
unfoldable pub low_in : ℕ → List Slot → Option ℕ
low_in r nd = cond (node_ok r nd && has_some nd) (Some (lowest nd)) None

unfoldable pub least_in : ℕ → List Slot → Option ℕ
least_in r nd = cond (node_ok r nd) (Some (least_count nd)) None
