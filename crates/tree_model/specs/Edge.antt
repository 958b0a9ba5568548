-- A shape at the edge of the limits, 01's worked case 9.
use Rattle.std.specs.Prelude.{◌*◌, ◌≡◌, ◌≤◌}
use Rattle.laws.specs.Prelude.{List, length, number_of, ℕ}
use Rattle.tree_model.specs.Calls.{cleared}
use Rattle.tree_model.specs.Damage.{room}
use Rattle.tree_model.specs.Words.{slot_words}

-- the shape's capacity, and the number that a clear answers on any words that have room for it: where that is 1, the slice is not the cause
pub record Edge (order levels slots number : ℕ) : Type 0 where
  pub capacity : room order levels ≡ slots
  pub says : (ws : List ℕ) → slot_words * slots ≤ length ws → number_of (cleared order levels ws).answer ≡ number
