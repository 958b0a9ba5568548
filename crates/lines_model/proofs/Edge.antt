-- The limits in plain numbers: the largest shape and what is just past each limit; and the ranges of the lines' ranks.
use Rattle.laws.specs.Prelude.{◌≡◌, element, false, refl, true, ℕ}
use Rattle.lines_model.specs.Layout.{line_of, power_of_two, Rows, shape_ok}
use Rattle.lines_model.specs.Rules.{in_range}

abbrev rows : ℕ → ℕ → ℕ → Rows
rows kind lines places = record { kind = kind; lines = lines; places = places }

-- 512 lines of 1,024 places, 524,288 elements, in 1,573,376 words; one word less is refused
pub largest : shape_ok (rows 2 512 1024) 1573376 ≡ true
unfolding shape_ok power_of_two
largest = refl

pub one-word-less : shape_ok (rows 2 512 1024) 1573375 ≡ false
unfolding shape_ok power_of_two
one-word-less = refl

pub least-shape : shape_ok (rows 1 1 1) 4 ≡ true
unfolding shape_ok power_of_two
least-shape = refl

pub lines-past : shape_ok (rows 1 1024 5) 9999999 ≡ false
unfolding shape_ok power_of_two
lines-past = refl

pub lines_none : shape_ok (rows 1 0 5) 9999999 ≡ false
unfolding shape_ok power_of_two
lines_none = refl

pub lines-three : shape_ok (rows 1 3 5) 9999999 ≡ false
unfolding shape_ok power_of_two
lines-three = refl

pub places-past : shape_ok (rows 1 4 1025) 9999999 ≡ false
unfolding shape_ok power_of_two
places-past = refl

pub places-none : shape_ok (rows 1 4 0) 9999999 ≡ false
unfolding shape_ok power_of_two
places-none = refl

pub kind-past : shape_ok (rows 3 4 5) 9999999 ≡ false
unfolding shape_ok power_of_two
kind-past = refl

pub kind-none : shape_ok (rows 0 4 5) 9999999 ≡ false
unfolding shape_ok power_of_two
kind-none = refl

-- four lines: 16,384 ranks each
pub line-ends : (line_of (rows 1 4 5) 16383 ≡ 0) × (line_of (rows 1 4 5) 16384 ≡ 1) × (line_of (rows 1 4 5) 49151 ≡ 2) × (line_of (rows 1 4 5) 65535 ≡ 3)
unfolding line_of
line-ends = (refl, refl, refl, refl)

-- rank 65,536: kind 1 has no line for it, kind 2 takes it
pub rank-past : (in_range (rows 1 4 5) (element 65535 50 500) ≡ true) × (in_range (rows 1 4 5) (element 65536 50 500) ≡ false) × (in_range (rows 2 4 5) (element 65536 50 500) ≡ true)
rank-past = (refl, refl, refl)
