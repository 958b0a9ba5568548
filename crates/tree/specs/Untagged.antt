-- What a call without a tag is answered.
use Rattle.std.specs.Prelude.{◌≡◌}
use Rattle.laws.specs.Prelude.{Answer, Element, List, Push, Replace, true, untagged, ℕ}
use Rattle.tree_model.specs.Prelude.{called, outcome}

-- the answer of a push and of a replace of any element without a tag; every word stands
abbrev pub Bars : ℕ → ℕ → List ℕ → Answer → Type 0
Bars m levels ws a =
    (x : Element) → untagged x ≡ true → (outcome a ws ≡ called m levels (Push x) ws) × (outcome a ws ≡ called m levels (Replace x) ws)
