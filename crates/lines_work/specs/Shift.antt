-- Words of a line that move by a place, as a copy of words; and a newcomer at its spot. These are definitions.
use Rattle.std.specs.Prelude.{◌+◌, ◌∷◌}
use Rattle.laws.specs.Prelude.{Element, List, [], leb, set, suc, zero, ℕ}
use Rattle.lines_model.specs.Layout.{word}
use Rattle.promise.specs.Prelude.{hit}

-- n words from word b on move up by a place, the last one first
unfoldable pub up : List ℕ → ℕ → ℕ → List ℕ
up w b zero = w
up w b (suc n) = up (set w (b + n + 3) (word w (b + n))) b n

-- n words come down by a place to word a, the first one first
unfoldable pub down : List ℕ → ℕ → ℕ → List ℕ
down w a zero = w
down w a (suc n) = down (set w a (word w (a + 3))) (a + 1) n

-- x after p elements
unfoldable pub seat : ℕ → Element → List Element → List Element
seat zero x l = x ∷ l
seat (suc p) x [] = x ∷ []
seat (suc p) x (y ∷ l) = y ∷ seat p x l

-- how many ranks are at most r
unfoldable pub at_most : ℕ → List Element → ℕ
at_most r [] = 0
at_most r (x ∷ l) = hit (leb x.rank.0 r) + at_most r l
