-- What the steps of the lines' work read and write, by the numbers of elements that the lines have. These are definitions.
use Rattle.std.specs.Prelude.{◌&&◌, ◌*◌, ◌+◌, ◌-◌, ◌<◌, ◌||◌, ◌≡◌, ◌≤◌}
use Rattle.laws.specs.Prelude.{Bool, Element, List, cond, eqb, false, length, ltb, not, true, ℕ}
use Rattle.lines_model.specs.Calls.{heads}
use Rattle.lines_model.specs.Layout.{put_in, row_at, row_in, without, word}
use Rattle.lines_model.specs.Rules.{ascends, counts_below, goal, is_blank, line_ok, own_rank, total}
use Rattle.lines_model.specs.declared.Due.{Due}
use Rattle.lines_model.specs.declared.Due.TheVariants.{Put, Rest, Swap, Take}
use Rattle.lines_model.specs.declared.Rows.{Rows}
use Rattle.lines_work.specs.Shift.{at_most}
pub use Rattle.lines_work.specs.declared.Look.{Look}
pub use Rattle.lines_work.specs.declared.Sizes.{Sizes}
pub use Rattle.lines_work.specs.declared.Totals.{Totals}

-- ---- one pass over the counts
unfoldable pub totals : List ℕ → ℕ → ℕ → Totals
totals w n most = record { ok = counts_below most (word w) n; sum = total (word w) n }

-- ---- the test of a line

abbrev pub one_more : ℕ → Bool → ℕ
one_more n b = cond b (n + 1) n

unfoldable pub scanned : ℕ → List Element → Look
scanned r l = record { ok = ascends l; spot = at_most r l }

-- the first and the last rank belong to line l
abbrev pub last_at : ℕ → ℕ → ℕ
last_at a c = a + 3 * (c - 1)

unfoldable pub ends_own : Rows → ℕ → List ℕ → ℕ → ℕ → Bool
ends_own k l w a c = cond (eqb c 0) true (own_rank k l (word w a) && own_rank k l (word w (last_at a c)))

unfoldable pub blank_end : Rows → List ℕ → ℕ → ℕ → Bool
blank_end k w a c = not (ltb c k.places) || is_blank w (a + (c + c + c))

-- whether line l with c elements passes, and the place of a newcomer of rank r
unfoldable pub seen : Rows → List ℕ → ℕ → ℕ → ℕ → Look
seen k w l c r = record { ok = line_ok k w l c; spot = at_most r (row_in w (row_at k l) c) }

-- of the lines of what is to be done
abbrev pub both : Look → Look → Look
both a b = record { ok = a.ok && b.ok; spot = b.spot }

unfoldable pub looked : Rows → List ℕ → Sizes → Due → Look
looked k w n Rest = record { ok = true; spot = 0 }
looked k w n (Put l x) = seen k w l n.takes x.rank.0
looked k w n (Take l) = seen k w l n.gives 0
looked k w n (Swap l x) = both (seen k w l n.gives 0) (seen k w (goal k l x) n.takes x.rank.0)

-- the numbers fit the lines: there is room, and something to give
abbrev pub Fits : Rows → Sizes → Due → Type 0
Fits k n Rest = Unit {0}
Fits k n (Put l x) = (l < k.lines) × (n.takes < k.places)
Fits k n (Take l) = (l < k.lines) × (1 ≤ n.gives) × (n.gives ≤ k.places)
Fits k n (Swap l x) = (l < k.lines) × (1 ≤ n.gives) × (n.gives ≤ k.places) × (goal k l x < k.lines) × (n.takes ≤ k.places) × (l ≡ goal k l x → n.takes ≡ n.gives) × ((l ≡ goal k l x → ⊥) → n.takes < k.places)

-- the look has passed, and this is the spot
abbrev pub Passed : Look → ℕ → Type 0
Passed r spot = (r.ok ≡ true) × (spot ≡ r.spot)

-- ---- the counts of what is to be done: there is a word to be counted, and it stays one
abbrev pub Countable : Rows → List ℕ → Due → Type 0
Countable k w Rest = Unit {0}
Countable k w (Put l x) = (l < length w) × (word w l < 4294967295)
Countable k w (Take l) = (l < length w) × (1 ≤ word w l)
Countable k w (Swap l x) = (l < length w) × (1 ≤ word w l) × (goal k l x < length w) × (word w (goal k l x) < 4294967295)

-- ---- the work at a line

-- its first place leaves, x comes in, or both
unfoldable pub lined : List ℕ → ℕ → ℕ → Bool → Bool → Element → List ℕ
lined w a c true true x = put_in (without w a c) a (c - 1) x
lined w a c true false x = without w a c
lined w a c false true x = put_in w a c x
lined w a c false false x = w

-- x's spot in a line of c elements
pub record Seated (w : List ℕ) (a c spot : ℕ) (x : Element) : Type 0 where
  pub rising : ascends (row_in w a c) ≡ true
  pub spot_is : spot ≡ at_most x.rank.0 (row_in w a c)

abbrev pub Lying : List ℕ → ℕ → ℕ → Bool → Bool → ℕ → Element → Type 0
Lying w a c true true spot x = (1 ≤ c) × (a + 3 * c ≤ length w) × Seated w a c spot x
Lying w a c true false spot x = (1 ≤ c) × (a + 3 * c ≤ length w)
Lying w a c false true spot x = (a + 3 * c + 3 ≤ length w) × Seated w a c spot x
Lying w a c false false spot x = Unit {0}

-- the lines of what is to be done, of so many elements
unfoldable pub worked_by : Rows → Sizes → Due → List ℕ → List ℕ
worked_by k n Rest w = w
worked_by k n (Put l x) w = lined w (row_at k l) n.takes false true x
worked_by k n (Take l) w = without w (row_at k l) n.gives
worked_by k n (Swap l x) w =
    cond (eqb l (goal k l x)) (lined w (row_at k l) n.gives true true x) (lined (without w (row_at k l) n.gives) (row_at k (goal k l x)) n.takes false true x)

-- ---- which line

-- the rank at the front of line l, above all ranks where it is empty
unfoldable pub front : Rows → List ℕ → ℕ → ℕ
front k w l = cond (eqb (word w l) 0) 4294967296 (heads k w l).rank.0
