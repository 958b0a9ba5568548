-- How many elements the lines of what is to be done have: where the counts have not changed yet, and where they have. These are definitions.
use Rattle.std.specs.Prelude.{◌<◌}
use Rattle.laws.specs.Prelude.{ℕ}
use Rattle.lines_model.specs.Rules.{goal}
use Rattle.lines_model.specs.declared.Due.{Due}
use Rattle.lines_model.specs.declared.Due.TheVariants.{Put, Rest, Swap, Take}
use Rattle.lines_model.specs.declared.Rows.{Rows}
use Rattle.lines_work.specs.declared.Sizes.{Sizes}

abbrev pub sizes : ℕ → ℕ → Sizes
sizes g t = record { gives = g; takes = t }

-- by the number of elements that each line had before
unfoldable pub sizes_by : Rows → (ℕ → ℕ) → Due → Sizes
sizes_by k had Rest = sizes 0 0
sizes_by k had (Put l x) = sizes 0 (had l)
sizes_by k had (Take l) = sizes (had l) 0
sizes_by k had (Swap l x) = sizes (had l) (had (goal k l x))

-- its lines are among n
abbrev pub Standing : Rows → ℕ → Due → Type 0
Standing k n Rest = Unit {0}
Standing k n (Put l x) = l < n
Standing k n (Take l) = l < n
Standing k n (Swap l x) = (l < n) × (goal k l x < n)
