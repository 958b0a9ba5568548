-- A tree's shape by its order and levels.
use Rattle.std.specs.Prelude.{◌*◌, ◌-◌, ◌≡◌, ◌≤◌}
use Rattle.laws.specs.Prelude.{Bool, cond, ℕ}
use Rattle.tree_node.specs.declared.shape.Shape.{Shape}
use Rattle.tree_model.specs.Prelude.{room, shape_ok, slot_limit, slot_words}

-- some slice would do for this order and these levels
abbrev pub is_tree : ℕ → ℕ → Bool
is_tree m levels = shape_ok m levels (slot_words * slot_limit)

-- what is computed of it, 0 where there is no such tree
pub record Shaped (m levels : ℕ) (s : Shape) : Type 0 where
  pub slots : s.slots ≡ cond (is_tree m levels) (room m levels) 0
  pub below : s.below ≡ cond (is_tree m levels) (levels - 1) 0
  pub fits : s.room ≡ room m s.below
  pub most : s.slots ≤ slot_limit
