-- The scans that the code makes over the places of a node, by the number of places seen.
use Rattle.laws.specs.Prelude.{Bool, List, cond, false, key, leb, precedes, suc, true, zero, ℕ}
use Rattle.cluster_model.specs.Prelude.{Place, gap, has, place_at}

-- does the new place leave before the best so far?
unfoldable pub lower_than : Place → Place → Bool
lower_than gap q = false
lower_than (has x) gap = true
lower_than (has x) (has e) = precedes x e

-- is it at least as high?
unfoldable pub high_as : Place → Place → Bool
high_as gap q = false
high_as (has x) gap = true
high_as (has x) (has e) = leb (key e) (key x)

unfoldable pub scan : (Place → Place → Bool) → List Place → ℕ → ℕ
scan better ps zero = 0
scan better ps (suc j) = cond (better (place_at ps j) (place_at ps (scan better ps j))) j (scan better ps j)
