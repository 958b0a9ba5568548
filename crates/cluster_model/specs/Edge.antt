-- A shape of the cluster heap at the edge of the limits: "K from 2 to 16; .. capacity K times (2^L − 1), at most 5,460".
use Rattle.std.specs.Prelude.{◌≡◌, ◌≤◌}
use Rattle.laws.specs.Prelude.{List, length, number_of, ℕ}
use Rattle.cluster_model.specs.Calls.{cleared}
use Rattle.cluster_model.specs.Heap.{room}
use Rattle.cluster_model.specs.Way.{extent}

-- the shape's capacity and its words, and the number that a clear answers on any slice that has them: where that is 1, the slice is not the cause
pub record Edge (K levels places words number : ℕ) : Type 0 where
  pub capacity : room K levels ≡ places
  pub wide : extent K levels 1 ≡ words
  pub says : (ws : List ℕ) → words ≤ length ws → number_of (cleared K levels ws).answer ≡ number
