-- Shapes at the edge of the limits: "1 to 256" heaps, "L at least 1", "H(2^L − 1) is at most 131,071: L is at most 17 with 1 heap, 16 with 2, 15 up to 4, .. 9 up to 256".
use Rattle.std.specs.Prelude.{◌≡◌, ◌≤◌}
use Rattle.laws.specs.Prelude.{List, length, number_of, ℕ}
use Rattle.packed_model.specs.Calls.{cleared}
use Rattle.packed_model.specs.Words.{capacity, extent}

-- a heap's capacity and the store's words, and the number that a clear answers on any slice that has them: where that is 1, the slice is not the cause
pub record Edge (H levels room words number : ℕ) : Type 0 where
  pub capacity : capacity levels ≡ room
  pub wide : extent H levels ≡ words
  pub says : (ws : List ℕ) → words ≤ length ws → number_of (cleared H levels ws).answer ≡ number
