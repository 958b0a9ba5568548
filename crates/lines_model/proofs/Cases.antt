-- The worked cases of the rules in plain numbers: the stores after four pushes, of both kinds, and the ticks-as of kind 1.
use Rattle.laws.specs.Prelude.{Full, List, Pop, Push, Replace, Request, [], ◌∷◌, ◌≡◌, blank, element, false, is_refused, refl, replicate, untagged, ℕ, Ok, None, Some, Err}
use Rattle.lines_model.specs.Calls.{called, lines, outcome}
use Rattle.lines_model.specs.Clock.{drains, due_ok, had, machine, settled, ticking, cycle_ok}
use Rattle.lines_model.specs.Layout.{line_of, power_of_two, put_in, row_in, Rows, row_set, shape_ok, without}
use Rattle.lines_model.specs.Rules.{ascends, choose, counted, counts_below, due_of, giver, goal, leads, line_ok, lines_ok, lowest, owned, Rest, seek, Swap, Take, taker, total, worked}
use Rattle.promise.specs.Prelude.{answers, drain_by, drained, leaves}

abbrev pub case_rows : ℕ → Rows
case_rows kind = record { kind = kind; lines = 2; places = 3 }

abbrev pub case_pushes : List Request
case_pushes = Push (element 5 50 500) ∷ Push (element 40000 40 400) ∷ Push (element 3 30 300) ∷ Push (element 5 51 510) ∷ []

-- kind 1
abbrev pub case_one : List ℕ
case_one = 3 ∷ 1 ∷ 3 ∷ 30 ∷ 300 ∷ 5 ∷ 50 ∷ 500 ∷ 5 ∷ 51 ∷ 510 ∷ 40000 ∷ 40 ∷ 400 ∷ 0 ∷ 0 ∷ 0 ∷ 0 ∷ 0 ∷ 0 ∷ []

pub case-lines-one : leaves (lines (case_rows 1)) case_pushes (replicate 20 0) ≡ case_one
unfolding leaves called choose taker giver goal seek leads lowest total due_of counted worked counts_below ascends owned line_ok lines_ok put_in without row_in row_set shape_ok power_of_two line_of blank untagged
case-lines-one = refl

-- kind 2
abbrev pub case_two : List ℕ
case_two = 3 ∷ 1 ∷ 3 ∷ 30 ∷ 300 ∷ 5 ∷ 50 ∷ 500 ∷ 40000 ∷ 40 ∷ 400 ∷ 5 ∷ 51 ∷ 510 ∷ 0 ∷ 0 ∷ 0 ∷ 0 ∷ 0 ∷ 0 ∷ []

pub case-lines-two : leaves (lines (case_rows 2)) case_pushes (replicate 20 0) ≡ case_two
unfolding leaves called choose taker giver goal seek leads lowest total due_of counted worked counts_below ascends owned line_ok lines_ok put_in without row_in row_set shape_ok power_of_two line_of blank untagged
case-lines-two = refl

-- kind 2, on a tie the first line gives: its 5/50 leaves before line 1's 5/51, after 3/30
pub case-tie : called (case_rows 2) Pop (2 ∷ 1 ∷ 5 ∷ 50 ∷ 500 ∷ 6 ∷ 60 ∷ 600 ∷ 0 ∷ 0 ∷ 0 ∷ 5 ∷ 51 ∷ 510 ∷ 0 ∷ 0 ∷ 0 ∷ 0 ∷ 0 ∷ 0 ∷ [])
    ≡ outcome (Ok (Some (element 5 50 500))) (1 ∷ 1 ∷ 6 ∷ 60 ∷ 600 ∷ 0 ∷ 0 ∷ 0 ∷ 0 ∷ 0 ∷ 0 ∷ 5 ∷ 51 ∷ 510 ∷ 0 ∷ 0 ∷ 0 ∷ 0 ∷ 0 ∷ 0 ∷ [])
unfolding leaves called choose taker giver goal seek leads lowest total due_of counted worked counts_below ascends owned line_ok lines_ok put_in without row_in row_set shape_ok power_of_two line_of blank untagged
case-tie = refl

-- kind 1, a full line: a push into it is refused, a replace that comes from it is taken, and one that comes from another line is refused and moves nothing
pub case_full : called (case_rows 1) (Push (element 7 70 700)) case_one ≡ outcome (Err Full) case_one
unfolding leaves called choose taker giver goal seek leads lowest total due_of counted worked counts_below ascends owned line_ok lines_ok put_in without row_in row_set shape_ok power_of_two line_of blank untagged
case_full = refl

pub case-own-full : called (case_rows 1) (Replace (element 7 70 700)) case_one
    ≡ outcome (Ok (Some (element 3 30 300))) (3 ∷ 1 ∷ 5 ∷ 50 ∷ 500 ∷ 5 ∷ 51 ∷ 510 ∷ 7 ∷ 70 ∷ 700 ∷ 40000 ∷ 40 ∷ 400 ∷ 0 ∷ 0 ∷ 0 ∷ 0 ∷ 0 ∷ 0 ∷ [])
unfolding leaves called choose taker giver goal seek leads lowest total due_of counted worked counts_below ascends owned line_ok lines_ok put_in without row_in row_set shape_ok power_of_two line_of blank untagged
case-own-full = refl

abbrev pub case_high : List ℕ
case_high = 1 ∷ 3 ∷ 9 ∷ 90 ∷ 900 ∷ 0 ∷ 0 ∷ 0 ∷ 0 ∷ 0 ∷ 0 ∷ 40000 ∷ 40 ∷ 400 ∷ 40001 ∷ 41 ∷ 410 ∷ 40002 ∷ 42 ∷ 420 ∷ []

pub case-other-full : called (case_rows 1) (Replace (element 50000 5 55)) case_high ≡ outcome (Err Full) case_high
unfolding leaves called choose taker giver goal seek leads lowest total due_of counted worked counts_below ascends owned line_ok lines_ok put_in without row_in row_set shape_ok power_of_two line_of blank untagged
case-other-full = refl

-- kind 1 on the clock: pop, pop, replace 40000/41, idle
abbrev pub case_cycles : List Request
case_cycles = Pop ∷ Pop ∷ Replace (element 40000 41 410) ∷ []

pub case-cycles-said : answers (ticking (case_rows 1)) case_cycles (machine case_one Rest) ≡ (Ok (Some (element 3 30 300)) ∷ Ok (Some (element 5 50 500)) ∷ Ok (Some (element 5 51 510)) ∷ [])
unfolding answers cycle_ok due_ok had settled leaves called choose taker giver goal seek leads lowest total due_of counted worked counts_below ascends owned line_ok lines_ok put_in without row_in row_set shape_ok power_of_two line_of blank untagged
case-cycles-said = refl

-- .. row by row: the counts have changed, the lines change a cycle later
pub case-cycle-one : (ticking (case_rows 1) Pop (machine case_one Rest)).next
    ≡ machine (2 ∷ 1 ∷ 3 ∷ 30 ∷ 300 ∷ 5 ∷ 50 ∷ 500 ∷ 5 ∷ 51 ∷ 510 ∷ 40000 ∷ 40 ∷ 400 ∷ 0 ∷ 0 ∷ 0 ∷ 0 ∷ 0 ∷ 0 ∷ []) (Take 0)
unfolding answers cycle_ok due_ok had settled leaves called choose taker giver goal seek leads lowest total due_of counted worked counts_below ascends owned line_ok lines_ok put_in without row_in row_set shape_ok power_of_two line_of blank untagged
case-cycle-one = refl

pub case-cycle-two : leaves (ticking (case_rows 1)) (Pop ∷ Pop ∷ []) (machine case_one Rest)
    ≡ machine (1 ∷ 1 ∷ 5 ∷ 50 ∷ 500 ∷ 5 ∷ 51 ∷ 510 ∷ 0 ∷ 0 ∷ 0 ∷ 40000 ∷ 40 ∷ 400 ∷ 0 ∷ 0 ∷ 0 ∷ 0 ∷ 0 ∷ 0 ∷ []) (Take 0)
unfolding answers cycle_ok due_ok had settled leaves called choose taker giver goal seek leads lowest total due_of counted worked counts_below ascends owned line_ok lines_ok put_in without row_in row_set shape_ok power_of_two line_of blank untagged
case-cycle-two = refl

pub case-cycles-left : leaves (ticking (case_rows 1)) case_cycles (machine case_one Rest)
    ≡ machine (0 ∷ 2 ∷ 5 ∷ 51 ∷ 510 ∷ 0 ∷ 0 ∷ 0 ∷ 0 ∷ 0 ∷ 0 ∷ 40000 ∷ 40 ∷ 400 ∷ 0 ∷ 0 ∷ 0 ∷ 0 ∷ 0 ∷ 0 ∷ []) (Swap 0 (element 40000 41 410))
unfolding answers cycle_ok due_ok had settled leaves called choose taker giver goal seek leads lowest total due_of counted worked counts_below ascends owned line_ok lines_ok put_in without row_in row_set shape_ok power_of_two line_of blank untagged
case-cycles-left = refl

pub case-cycles-idle : drains (case_rows 1) 1 (leaves (ticking (case_rows 1)) case_cycles (machine case_one Rest))
    ≡ drained (Ok None) 1 false (machine (0 ∷ 2 ∷ 0 ∷ 0 ∷ 0 ∷ 0 ∷ 0 ∷ 0 ∷ 0 ∷ 0 ∷ 0 ∷ 40000 ∷ 40 ∷ 400 ∷ 40000 ∷ 41 ∷ 410 ∷ 0 ∷ 0 ∷ 0 ∷ []) Rest)
unfolding drains drain_by is_refused answers cycle_ok due_ok had settled leaves called choose taker giver goal seek leads lowest total due_of counted worked counts_below ascends owned line_ok lines_ok put_in without row_in row_set shape_ok power_of_two line_of blank untagged
case-cycles-idle = refl
