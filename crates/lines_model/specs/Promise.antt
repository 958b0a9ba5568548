-- What is promised of the lines' words, and what they hold. These are definitions.
use Rattle.std.specs.Prelude.{◌*◌, ◌++◌, ◌+◌, ◌<◌, ◌≡◌, ◌≤◌}
use Rattle.laws.specs.Prelude.{All, Bool, Element, List, [], length, suc, zero, ℕ}
use Rattle.promise.specs.FirstIn.{Sorted, times}
use Rattle.lines_model.specs.Causes.{Own, Shaped}
use Rattle.lines_model.specs.Layout.{row_at, row_in, Rows, word}

-- "A line with count c has its elements at places 0 to c − 1, in ascending rank ..; every place behind them is 0, 0, 0"; kind 1: each rank belongs to its line.
-- Line l is m l
pub record Sound (k : Rows) (w : List ℕ) (m : ℕ → List Element) : Type 0 where
  pub shaped : Shaped k (length w)
  pub count : (l : ℕ) → l < k.lines → word w l ≡ length (m l)
  pub fit : (l : ℕ) → l < k.lines → length (m l) ≤ k.places
  pub row : (l : ℕ) → l < k.lines → row_in w (row_at k l) (length (m l)) ≡ m l
  pub neat : (l : ℕ) → l < k.lines → (i : ℕ) → row_at k l + 3 * length (m l) ≤ i → i < row_at k l + 3 * k.places → word w i ≡ 0
  pub sorted : (l : ℕ) → l < k.lines → Sorted (m l)
  pub own : (l : ℕ) → l < k.lines → All (Own k l) (m l)

-- what every call keeps: each line is sorted and neat
abbrev pub Neat : Rows → List ℕ → Type 0
Neat k w = (m : ℕ → List Element) × Sound k w m

-- the elements of line l
abbrev pub line_in : Rows → List ℕ → ℕ → List Element
line_in k w l = row_in w (row_at k l) (word w l)

-- n lines from line i on, one behind the other
unfoldable pub in_order : (ℕ → List Element) → ℕ → ℕ → List Element
in_order m i zero = []
in_order m i (suc n) = m i ++ in_order m (suc i) n

-- all that the store holds, and how many of it pass a test
unfoldable pub stored : Rows → List ℕ → List Element
stored k w = in_order (line_in k w) 0 k.lines

abbrev pub stored_by : Rows → List ℕ → (Element → Bool) → ℕ
stored_by k w f = times f (stored k w)
