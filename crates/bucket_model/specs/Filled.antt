-- The words that are not 0, to read a worked case off. This is a definition.
use Rattle.std.specs.Prelude.{◌∷◌}
use Rattle.laws.specs.Prelude.{List, [], cond, eqb, suc, ℕ}

-- the words from place i on that are not 0, each with its place
unfoldable pub filled : ℕ → List ℕ → List (ℕ × ℕ)
filled i [] = []
filled i (x ∷ xs) = cond (eqb x 0) (filled (suc i) xs) ((i, x) ∷ filled (suc i) xs)
