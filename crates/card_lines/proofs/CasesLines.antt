-- Calls through C in plain numbers: the number returned, every word left and every word of `out`, for each call, with rank, tag and length all different. Two lines of
-- three places; a word more than the store, the record and `out` need.
use Rattle.laws.specs.Prelude.{List, [], ◌∷◌, ◌≡◌, blank, is_refused, refl, untagged, ℕ}
use Rattle.card_lines.specs.Clocked.{clock_after, clock_after_out, lines_clock_clear, lines_clock_cycle, lines_clock_drain, lines_clock_held}
use Rattle.card_lines.specs.Lines.{lines_clear, lines_held, lines_pop, lines_push, lines_replace, lines_words}
use Rattle.card_words.specs.Store.{store_after, store_after_out, store_answered}
use Rattle.card_words.specs.Asked.{request_of}
use Rattle.card_words.specs.Out.{count_after, count_answered, refused_out}
use Rattle.lines_model.specs.Calls.{called, cleared, held_count, wipe}
use Rattle.lines_model.specs.Clock.{clock_cleared, clock_held, drains, due_ok, had, settled, cycled, cycle_ok}
use Rattle.lines_model.specs.Layout.{line_of, power_of_two, put_in, row_in, row_set, shape_ok, without}
use Rattle.lines_model.specs.Rules.{ascends, choose, counted, counts_below, due_of, giver, goal, leads, line_ok, lines_ok, lowest, owned, seek, taker, total, worked}
use Rattle.lines_records.specs.Lent.{lent_cleared, lent_cycled, lent_drains, pending_of, readable}
use Rattle.promise.specs.Prelude.{drain_by}

abbrev pub bare_store : List ℕ
bare_store = 0 ∷ 0 ∷ 0 ∷ 0 ∷ 0 ∷ 0 ∷ 0 ∷ 0 ∷ 0 ∷ 0 ∷ 0 ∷ 0 ∷ 0 ∷ 0 ∷ 0 ∷ 0 ∷ 0 ∷ 0 ∷ 0 ∷ 0 ∷ 77 ∷ []

abbrev pub case_one : List ℕ
case_one = 3 ∷ 1 ∷ 3 ∷ 30 ∷ 300 ∷ 5 ∷ 50 ∷ 500 ∷ 5 ∷ 51 ∷ 510 ∷ 40000 ∷ 40 ∷ 400 ∷ 0 ∷ 0 ∷ 0 ∷ 0 ∷ 0 ∷ 0 ∷ 77 ∷ []

abbrev pub case_two : List ℕ
case_two = 3 ∷ 1 ∷ 3 ∷ 30 ∷ 300 ∷ 5 ∷ 50 ∷ 500 ∷ 40000 ∷ 40 ∷ 400 ∷ 5 ∷ 51 ∷ 510 ∷ 0 ∷ 0 ∷ 0 ∷ 0 ∷ 0 ∷ 0 ∷ 77 ∷ []

-- how many words: 2 counts and 3 words for each of 6 places; 4 and 12. 3 lines are no power of two, and there is no kind 3
pub case-sizes : (lines_words 1 2 3 ≡ 20) × (lines_words 2 4 3 ≡ 40) × (lines_words 1 3 2 ≡ 0) × (lines_words 3 2 1 ≡ 0)
unfolding lines_words shape_ok power_of_two
case-sizes = (refl, refl, refl, refl)

-- kind 1, the store of the rules: a clear (the word behind the store stands), then pushes of 5/50, 40000/40, 3/30, 5/51, and held
pub case-one : (lines_clear 1 2 3 (1 ∷ 2 ∷ 3 ∷ 4 ∷ 5 ∷ 6 ∷ 7 ∷ 8 ∷ 9 ∷ 10 ∷ 11 ∷ 12 ∷ 13 ∷ 14 ∷ 15 ∷ 16 ∷ 17 ∷ 18 ∷ 19 ∷ 20 ∷ 77 ∷ [])
    ≡ store_after 0 bare_store)
    × (lines_push 1 2 3 bare_store 5 50 500
    ≡ store_after 0 (1 ∷ 0 ∷ 5 ∷ 50 ∷ 500 ∷ 0 ∷ 0 ∷ 0 ∷ 0 ∷ 0 ∷ 0 ∷ 0 ∷ 0 ∷ 0 ∷ 0 ∷ 0 ∷ 0 ∷ 0 ∷ 0 ∷ 0 ∷ 77 ∷ []))
    × (lines_push 1 2 3 (1 ∷ 0 ∷ 5 ∷ 50 ∷ 500 ∷ 0 ∷ 0 ∷ 0 ∷ 0 ∷ 0 ∷ 0 ∷ 0 ∷ 0 ∷ 0 ∷ 0 ∷ 0 ∷ 0 ∷ 0 ∷ 0 ∷ 0 ∷ 77 ∷ []) 40000 40 400
    ≡ store_after 0 (1 ∷ 1 ∷ 5 ∷ 50 ∷ 500 ∷ 0 ∷ 0 ∷ 0 ∷ 0 ∷ 0 ∷ 0 ∷ 40000 ∷ 40 ∷ 400 ∷ 0 ∷ 0 ∷ 0 ∷ 0 ∷ 0 ∷ 0 ∷ 77 ∷ []))
    × (lines_push 1 2 3 (1 ∷ 1 ∷ 5 ∷ 50 ∷ 500 ∷ 0 ∷ 0 ∷ 0 ∷ 0 ∷ 0 ∷ 0 ∷ 40000 ∷ 40 ∷ 400 ∷ 0 ∷ 0 ∷ 0 ∷ 0 ∷ 0 ∷ 0 ∷ 77 ∷ []) 3 30 300
    ≡ store_after 0 (2 ∷ 1 ∷ 3 ∷ 30 ∷ 300 ∷ 5 ∷ 50 ∷ 500 ∷ 0 ∷ 0 ∷ 0 ∷ 40000 ∷ 40 ∷ 400 ∷ 0 ∷ 0 ∷ 0 ∷ 0 ∷ 0 ∷ 0 ∷ 77 ∷ []))
    × (lines_push 1 2 3 (2 ∷ 1 ∷ 3 ∷ 30 ∷ 300 ∷ 5 ∷ 50 ∷ 500 ∷ 0 ∷ 0 ∷ 0 ∷ 40000 ∷ 40 ∷ 400 ∷ 0 ∷ 0 ∷ 0 ∷ 0 ∷ 0 ∷ 0 ∷ 77 ∷ []) 5 51 510
    ≡ store_after 0 case_one)
    × (lines_held 1 2 3 case_one (9 ∷ 77 ∷ [])
    ≡ count_after 0 (4 ∷ 77 ∷ []))
unfolding store_answered count_answered called cleared held_count wipe choose taker giver goal seek leads lowest total due_of counted worked counts_below ascends owned line_ok lines_ok put_in without row_in row_set shape_ok power_of_two line_of blank untagged
case-one = (refl, refl, refl, refl, refl, refl)

-- kind 2, the same pushes
pub case-two : (lines_push 2 2 3 bare_store 5 50 500
    ≡ store_after 0 (1 ∷ 0 ∷ 5 ∷ 50 ∷ 500 ∷ 0 ∷ 0 ∷ 0 ∷ 0 ∷ 0 ∷ 0 ∷ 0 ∷ 0 ∷ 0 ∷ 0 ∷ 0 ∷ 0 ∷ 0 ∷ 0 ∷ 0 ∷ 77 ∷ []))
    × (lines_push 2 2 3 (1 ∷ 0 ∷ 5 ∷ 50 ∷ 500 ∷ 0 ∷ 0 ∷ 0 ∷ 0 ∷ 0 ∷ 0 ∷ 0 ∷ 0 ∷ 0 ∷ 0 ∷ 0 ∷ 0 ∷ 0 ∷ 0 ∷ 0 ∷ 77 ∷ []) 40000 40 400
    ≡ store_after 0 (2 ∷ 0 ∷ 5 ∷ 50 ∷ 500 ∷ 40000 ∷ 40 ∷ 400 ∷ 0 ∷ 0 ∷ 0 ∷ 0 ∷ 0 ∷ 0 ∷ 0 ∷ 0 ∷ 0 ∷ 0 ∷ 0 ∷ 0 ∷ 77 ∷ []))
    × (lines_push 2 2 3 (2 ∷ 0 ∷ 5 ∷ 50 ∷ 500 ∷ 40000 ∷ 40 ∷ 400 ∷ 0 ∷ 0 ∷ 0 ∷ 0 ∷ 0 ∷ 0 ∷ 0 ∷ 0 ∷ 0 ∷ 0 ∷ 0 ∷ 0 ∷ 77 ∷ []) 3 30 300
    ≡ store_after 0 (3 ∷ 0 ∷ 3 ∷ 30 ∷ 300 ∷ 5 ∷ 50 ∷ 500 ∷ 40000 ∷ 40 ∷ 400 ∷ 0 ∷ 0 ∷ 0 ∷ 0 ∷ 0 ∷ 0 ∷ 0 ∷ 0 ∷ 0 ∷ 77 ∷ []))
    × (lines_push 2 2 3 (3 ∷ 0 ∷ 3 ∷ 30 ∷ 300 ∷ 5 ∷ 50 ∷ 500 ∷ 40000 ∷ 40 ∷ 400 ∷ 0 ∷ 0 ∷ 0 ∷ 0 ∷ 0 ∷ 0 ∷ 0 ∷ 0 ∷ 0 ∷ 77 ∷ []) 5 51 510
    ≡ store_after 0 case_two)
unfolding store_answered count_answered called cleared held_count wipe choose taker giver goal seek leads lowest total due_of counted worked counts_below ascends owned line_ok lines_ok put_in without row_in row_set shape_ok power_of_two line_of blank untagged
case-two = (refl, refl, refl, refl)

-- a pop, and a replace whose x goes to another line; of kind 2, into the line that gave
pub case-gives : (lines_pop 1 2 3 case_one (9 ∷ 9 ∷ 9 ∷ 77 ∷ [])
    ≡ store_after_out 0 (2 ∷ 1 ∷ 5 ∷ 50 ∷ 500 ∷ 5 ∷ 51 ∷ 510 ∷ 0 ∷ 0 ∷ 0 ∷ 40000 ∷ 40 ∷ 400 ∷ 0 ∷ 0 ∷ 0 ∷ 0 ∷ 0 ∷ 0 ∷ 77 ∷ []) (3 ∷ 30 ∷ 300 ∷ 77 ∷ []))
    × (lines_replace 1 2 3 case_one 40000 41 410 (9 ∷ 9 ∷ 9 ∷ 77 ∷ [])
    ≡ store_after_out 0 (2 ∷ 2 ∷ 5 ∷ 50 ∷ 500 ∷ 5 ∷ 51 ∷ 510 ∷ 0 ∷ 0 ∷ 0 ∷ 40000 ∷ 40 ∷ 400 ∷ 40000 ∷ 41 ∷ 410 ∷ 0 ∷ 0 ∷ 0 ∷ 77 ∷ []) (3 ∷ 30 ∷ 300 ∷ 77 ∷ []))
    × (lines_pop 2 2 3 case_two (9 ∷ 9 ∷ 9 ∷ 77 ∷ [])
    ≡ store_after_out 0 (2 ∷ 1 ∷ 5 ∷ 50 ∷ 500 ∷ 40000 ∷ 40 ∷ 400 ∷ 0 ∷ 0 ∷ 0 ∷ 5 ∷ 51 ∷ 510 ∷ 0 ∷ 0 ∷ 0 ∷ 0 ∷ 0 ∷ 0 ∷ 77 ∷ []) (3 ∷ 30 ∷ 300 ∷ 77 ∷ []))
    × (lines_replace 2 2 3 case_two 40000 41 410 (9 ∷ 9 ∷ 9 ∷ 77 ∷ [])
    ≡ store_after_out 0 (3 ∷ 1 ∷ 5 ∷ 50 ∷ 500 ∷ 40000 ∷ 40 ∷ 400 ∷ 40000 ∷ 41 ∷ 410 ∷ 5 ∷ 51 ∷ 510 ∷ 0 ∷ 0 ∷ 0 ∷ 0 ∷ 0 ∷ 0 ∷ 77 ∷ []) (3 ∷ 30 ∷ 300 ∷ 77 ∷ []))
unfolding store_answered count_answered called cleared held_count wipe choose taker giver goal seek leads lowest total due_of counted worked counts_below ascends owned line_ok lines_ok put_in without row_in row_set shape_ok power_of_two line_of blank untagged
case-gives = (refl, refl, refl, refl)

-- refused 4, 7 and 5; a pop refused 6 writes zeros, and an `out` of two words is refused and not touched
pub case-refusals : (lines_push 1 2 3 case_one 65536 60 600
    ≡ store_after 4 case_one)
    × (lines_push 1 2 3 case_one 6 0 600
    ≡ store_after 7 case_one)
    × (lines_push 1 2 3 case_one 6 60 600
    ≡ store_after 5 case_one)
    × (lines_pop 1 2 3 bare_store (9 ∷ 9 ∷ 9 ∷ 77 ∷ [])
    ≡ store_after_out 6 bare_store (0 ∷ 0 ∷ 0 ∷ 77 ∷ []))
    × (lines_pop 1 2 3 case_one (8 ∷ 9 ∷ [])
    ≡ store_after_out 1 case_one (8 ∷ 9 ∷ []))
unfolding store_answered count_answered called cleared held_count wipe choose taker giver goal seek leads lowest total due_of counted worked counts_below ascends owned line_ok lines_ok put_in without row_in row_set shape_ok power_of_two line_of blank untagged
case-refusals = (refl, refl, refl, refl, refl)

-- kind 1 on the clock, the table of the rules: pop, pop, replace 40000/41, idle. A record of nothing is read as nothing, whatever its numbers, and only the first is used
pub case-cycles : (lines_clock_cycle 1 2 3 case_one ((0 ∷ 8 ∷ 8 ∷ 8 ∷ 8 ∷ []) ∷ (6 ∷ 6 ∷ 6 ∷ 6 ∷ 6 ∷ []) ∷ []) 2 1 1 1 (9 ∷ 9 ∷ 9 ∷ 77 ∷ [])
    ≡ clock_after_out 0 (2 ∷ 1 ∷ 3 ∷ 30 ∷ 300 ∷ 5 ∷ 50 ∷ 500 ∷ 5 ∷ 51 ∷ 510 ∷ 40000 ∷ 40 ∷ 400 ∷ 0 ∷ 0 ∷ 0 ∷ 0 ∷ 0 ∷ 0 ∷ 77 ∷ []) ((2 ∷ 0 ∷ 0 ∷ 0 ∷ 0 ∷ []) ∷ (6 ∷ 6 ∷ 6 ∷ 6 ∷ 6 ∷ []) ∷ []) (3 ∷ 30 ∷ 300 ∷ 77 ∷ []))
    × (lines_clock_cycle 1 2 3 (2 ∷ 1 ∷ 3 ∷ 30 ∷ 300 ∷ 5 ∷ 50 ∷ 500 ∷ 5 ∷ 51 ∷ 510 ∷ 40000 ∷ 40 ∷ 400 ∷ 0 ∷ 0 ∷ 0 ∷ 0 ∷ 0 ∷ 0 ∷ 77 ∷ []) ((2 ∷ 0 ∷ 0 ∷ 0 ∷ 0 ∷ []) ∷ (6 ∷ 6 ∷ 6 ∷ 6 ∷ 6 ∷ []) ∷ []) 2 1 1 1 (9 ∷ 9 ∷ 9 ∷ 77 ∷ [])
    ≡ clock_after_out 0 (1 ∷ 1 ∷ 5 ∷ 50 ∷ 500 ∷ 5 ∷ 51 ∷ 510 ∷ 0 ∷ 0 ∷ 0 ∷ 40000 ∷ 40 ∷ 400 ∷ 0 ∷ 0 ∷ 0 ∷ 0 ∷ 0 ∷ 0 ∷ 77 ∷ []) ((2 ∷ 0 ∷ 0 ∷ 0 ∷ 0 ∷ []) ∷ (6 ∷ 6 ∷ 6 ∷ 6 ∷ 6 ∷ []) ∷ []) (5 ∷ 50 ∷ 500 ∷ 77 ∷ []))
    × (lines_clock_cycle 1 2 3 (1 ∷ 1 ∷ 5 ∷ 50 ∷ 500 ∷ 5 ∷ 51 ∷ 510 ∷ 0 ∷ 0 ∷ 0 ∷ 40000 ∷ 40 ∷ 400 ∷ 0 ∷ 0 ∷ 0 ∷ 0 ∷ 0 ∷ 0 ∷ 77 ∷ []) ((2 ∷ 0 ∷ 0 ∷ 0 ∷ 0 ∷ []) ∷ (6 ∷ 6 ∷ 6 ∷ 6 ∷ 6 ∷ []) ∷ []) 3 40000 41 410 (9 ∷ 9 ∷ 9 ∷ 77 ∷ [])
    ≡ clock_after_out 0 (0 ∷ 2 ∷ 5 ∷ 51 ∷ 510 ∷ 0 ∷ 0 ∷ 0 ∷ 0 ∷ 0 ∷ 0 ∷ 40000 ∷ 40 ∷ 400 ∷ 0 ∷ 0 ∷ 0 ∷ 0 ∷ 0 ∷ 0 ∷ 77 ∷ []) ((3 ∷ 0 ∷ 40000 ∷ 41 ∷ 410 ∷ []) ∷ (6 ∷ 6 ∷ 6 ∷ 6 ∷ 6 ∷ []) ∷ []) (5 ∷ 51 ∷ 510 ∷ 77 ∷ []))
    × (lines_clock_cycle 1 2 3 (0 ∷ 2 ∷ 5 ∷ 51 ∷ 510 ∷ 0 ∷ 0 ∷ 0 ∷ 0 ∷ 0 ∷ 0 ∷ 40000 ∷ 40 ∷ 400 ∷ 0 ∷ 0 ∷ 0 ∷ 0 ∷ 0 ∷ 0 ∷ 77 ∷ []) ((3 ∷ 0 ∷ 40000 ∷ 41 ∷ 410 ∷ []) ∷ (6 ∷ 6 ∷ 6 ∷ 6 ∷ 6 ∷ []) ∷ []) 0 1 1 1 (9 ∷ 9 ∷ 9 ∷ 77 ∷ [])
    ≡ clock_after_out 0 (0 ∷ 2 ∷ 0 ∷ 0 ∷ 0 ∷ 0 ∷ 0 ∷ 0 ∷ 0 ∷ 0 ∷ 0 ∷ 40000 ∷ 40 ∷ 400 ∷ 40000 ∷ 41 ∷ 410 ∷ 0 ∷ 0 ∷ 0 ∷ 77 ∷ []) ((0 ∷ 0 ∷ 0 ∷ 0 ∷ 0 ∷ []) ∷ (6 ∷ 6 ∷ 6 ∷ 6 ∷ 6 ∷ []) ∷ []) (0 ∷ 0 ∷ 0 ∷ 77 ∷ []))
unfolding lines_clock_cycle lines_clock_drain request_of count_answered refused_out lent_cleared lent_cycled lent_drains readable pending_of clock_cleared clock_held cycled drains drain_by is_refused cycle_ok due_ok had settled wipe choose taker giver goal seek leads lowest total due_of counted worked counts_below ascends owned line_ok lines_ok put_in without row_in row_set shape_ok power_of_two line_of blank untagged
case-cycles = (refl, refl, refl, refl)

-- a push to line 1, and the cycle in which it is sorted in
pub case-pushed : (lines_clock_cycle 1 2 3 case_one ((0 ∷ 0 ∷ 0 ∷ 0 ∷ 0 ∷ []) ∷ (6 ∷ 6 ∷ 6 ∷ 6 ∷ 6 ∷ []) ∷ []) 1 50000 60 600 (9 ∷ 9 ∷ 9 ∷ 77 ∷ [])
    ≡ clock_after_out 0 (3 ∷ 2 ∷ 3 ∷ 30 ∷ 300 ∷ 5 ∷ 50 ∷ 500 ∷ 5 ∷ 51 ∷ 510 ∷ 40000 ∷ 40 ∷ 400 ∷ 0 ∷ 0 ∷ 0 ∷ 0 ∷ 0 ∷ 0 ∷ 77 ∷ []) ((1 ∷ 1 ∷ 50000 ∷ 60 ∷ 600 ∷ []) ∷ (6 ∷ 6 ∷ 6 ∷ 6 ∷ 6 ∷ []) ∷ []) (0 ∷ 0 ∷ 0 ∷ 77 ∷ []))
    × (lines_clock_cycle 1 2 3 (3 ∷ 2 ∷ 3 ∷ 30 ∷ 300 ∷ 5 ∷ 50 ∷ 500 ∷ 5 ∷ 51 ∷ 510 ∷ 40000 ∷ 40 ∷ 400 ∷ 0 ∷ 0 ∷ 0 ∷ 0 ∷ 0 ∷ 0 ∷ 77 ∷ []) ((1 ∷ 1 ∷ 50000 ∷ 60 ∷ 600 ∷ []) ∷ (6 ∷ 6 ∷ 6 ∷ 6 ∷ 6 ∷ []) ∷ []) 0 1 1 1 (9 ∷ 9 ∷ 9 ∷ 77 ∷ [])
    ≡ clock_after_out 0 (3 ∷ 2 ∷ 3 ∷ 30 ∷ 300 ∷ 5 ∷ 50 ∷ 500 ∷ 5 ∷ 51 ∷ 510 ∷ 40000 ∷ 40 ∷ 400 ∷ 50000 ∷ 60 ∷ 600 ∷ 0 ∷ 0 ∷ 0 ∷ 77 ∷ []) ((0 ∷ 0 ∷ 0 ∷ 0 ∷ 0 ∷ []) ∷ (6 ∷ 6 ∷ 6 ∷ 6 ∷ 6 ∷ []) ∷ []) (0 ∷ 0 ∷ 0 ∷ 77 ∷ []))
unfolding lines_clock_cycle lines_clock_drain request_of count_answered refused_out lent_cleared lent_cycled lent_drains readable pending_of clock_cleared clock_held cycled drains drain_by is_refused cycle_ok due_ok had settled wipe choose taker giver goal seek leads lowest total due_of counted worked counts_below ascends owned line_ok lines_ok put_in without row_in row_set shape_ok power_of_two line_of blank untagged
case-pushed = (refl, refl)

-- refused 5 the cycle runs as an idle one, and the record is written; refused 1, for its kind and for the request, and 2 it stands
pub case-cycle-refusals : (lines_clock_cycle 1 2 3 case_one ((0 ∷ 8 ∷ 8 ∷ 8 ∷ 8 ∷ []) ∷ (6 ∷ 6 ∷ 6 ∷ 6 ∷ 6 ∷ []) ∷ []) 1 6 60 600 (9 ∷ 9 ∷ 9 ∷ 77 ∷ [])
    ≡ clock_after_out 5 case_one ((0 ∷ 0 ∷ 0 ∷ 0 ∷ 0 ∷ []) ∷ (6 ∷ 6 ∷ 6 ∷ 6 ∷ 6 ∷ []) ∷ []) (0 ∷ 0 ∷ 0 ∷ 77 ∷ []))
    × (lines_clock_cycle 1 2 3 case_one ((4 ∷ 0 ∷ 0 ∷ 0 ∷ 0 ∷ []) ∷ (6 ∷ 6 ∷ 6 ∷ 6 ∷ 6 ∷ []) ∷ []) 2 1 1 1 (9 ∷ 9 ∷ 9 ∷ 77 ∷ [])
    ≡ clock_after_out 1 case_one ((4 ∷ 0 ∷ 0 ∷ 0 ∷ 0 ∷ []) ∷ (6 ∷ 6 ∷ 6 ∷ 6 ∷ 6 ∷ []) ∷ []) (0 ∷ 0 ∷ 0 ∷ 77 ∷ []))
    × (lines_clock_cycle 1 2 3 case_one ((0 ∷ 8 ∷ 8 ∷ 8 ∷ 8 ∷ []) ∷ (6 ∷ 6 ∷ 6 ∷ 6 ∷ 6 ∷ []) ∷ []) 4 1 1 1 (9 ∷ 9 ∷ 9 ∷ 77 ∷ [])
    ≡ clock_after_out 1 case_one ((0 ∷ 8 ∷ 8 ∷ 8 ∷ 8 ∷ []) ∷ (6 ∷ 6 ∷ 6 ∷ 6 ∷ 6 ∷ []) ∷ []) (0 ∷ 0 ∷ 0 ∷ 77 ∷ []))
    × (lines_clock_cycle 1 2 3 case_one ((2 ∷ 2 ∷ 8 ∷ 8 ∷ 8 ∷ []) ∷ (6 ∷ 6 ∷ 6 ∷ 6 ∷ 6 ∷ []) ∷ []) 0 1 1 1 (9 ∷ 9 ∷ 9 ∷ 77 ∷ [])
    ≡ clock_after_out 2 case_one ((2 ∷ 2 ∷ 8 ∷ 8 ∷ 8 ∷ []) ∷ (6 ∷ 6 ∷ 6 ∷ 6 ∷ 6 ∷ []) ∷ []) (0 ∷ 0 ∷ 0 ∷ 77 ∷ []))
unfolding lines_clock_cycle lines_clock_drain request_of count_answered refused_out lent_cleared lent_cycled lent_drains readable pending_of clock_cleared clock_held cycled drains drain_by is_refused cycle_ok due_ok had settled wipe choose taker giver goal seek leads lowest total due_of counted worked counts_below ascends owned line_ok lines_ok put_in without row_in row_set shape_ok power_of_two line_of blank untagged
case-cycle-refusals = (refl, refl, refl, refl)

-- a drain: one cycle is enough; with nothing pending none is run, and the record stands; with no budget, and refused 2, work is left; and no record is lent
pub case-drains : (lines_clock_drain 1 2 3 (0 ∷ 2 ∷ 5 ∷ 51 ∷ 510 ∷ 0 ∷ 0 ∷ 0 ∷ 0 ∷ 0 ∷ 0 ∷ 40000 ∷ 40 ∷ 400 ∷ 0 ∷ 0 ∷ 0 ∷ 0 ∷ 0 ∷ 0 ∷ 77 ∷ []) ((3 ∷ 0 ∷ 40000 ∷ 41 ∷ 410 ∷ []) ∷ []) 5 (9 ∷ 9 ∷ 77 ∷ [])
    ≡ clock_after_out 0 (0 ∷ 2 ∷ 0 ∷ 0 ∷ 0 ∷ 0 ∷ 0 ∷ 0 ∷ 0 ∷ 0 ∷ 0 ∷ 40000 ∷ 40 ∷ 400 ∷ 40000 ∷ 41 ∷ 410 ∷ 0 ∷ 0 ∷ 0 ∷ 77 ∷ []) ((0 ∷ 0 ∷ 0 ∷ 0 ∷ 0 ∷ []) ∷ []) (1 ∷ 0 ∷ 77 ∷ []))
    × (lines_clock_drain 1 2 3 case_one ((0 ∷ 8 ∷ 8 ∷ 8 ∷ 8 ∷ []) ∷ []) 5 (9 ∷ 9 ∷ 77 ∷ [])
    ≡ clock_after_out 0 case_one ((0 ∷ 8 ∷ 8 ∷ 8 ∷ 8 ∷ []) ∷ []) (0 ∷ 0 ∷ 77 ∷ []))
    × (lines_clock_drain 1 2 3 (0 ∷ 2 ∷ 5 ∷ 51 ∷ 510 ∷ 0 ∷ 0 ∷ 0 ∷ 0 ∷ 0 ∷ 0 ∷ 40000 ∷ 40 ∷ 400 ∷ 0 ∷ 0 ∷ 0 ∷ 0 ∷ 0 ∷ 0 ∷ 77 ∷ []) ((3 ∷ 0 ∷ 40000 ∷ 41 ∷ 410 ∷ []) ∷ []) 0 (9 ∷ 9 ∷ 77 ∷ [])
    ≡ clock_after_out 0 (0 ∷ 2 ∷ 5 ∷ 51 ∷ 510 ∷ 0 ∷ 0 ∷ 0 ∷ 0 ∷ 0 ∷ 0 ∷ 40000 ∷ 40 ∷ 400 ∷ 0 ∷ 0 ∷ 0 ∷ 0 ∷ 0 ∷ 0 ∷ 77 ∷ []) ((3 ∷ 0 ∷ 40000 ∷ 41 ∷ 410 ∷ []) ∷ []) (0 ∷ 1 ∷ 77 ∷ []))
    × (lines_clock_drain 1 2 3 case_one ((2 ∷ 2 ∷ 8 ∷ 8 ∷ 8 ∷ []) ∷ []) 5 (9 ∷ 9 ∷ 77 ∷ [])
    ≡ clock_after_out 2 case_one ((2 ∷ 2 ∷ 8 ∷ 8 ∷ 8 ∷ []) ∷ []) (0 ∷ 1 ∷ 77 ∷ []))
    × (lines_clock_drain 1 2 3 case_one [] 5 (9 ∷ 9 ∷ 77 ∷ [])
    ≡ clock_after_out 1 case_one [] (0 ∷ 0 ∷ 77 ∷ []))
unfolding lines_clock_cycle lines_clock_drain request_of count_answered refused_out lent_cleared lent_cycled lent_drains readable pending_of clock_cleared clock_held cycled drains drain_by is_refused cycle_ok due_ok had settled wipe choose taker giver goal seek leads lowest total due_of counted worked counts_below ascends owned line_ok lines_ok put_in without row_in row_set shape_ok power_of_two line_of blank untagged
case-drains = (refl, refl, refl, refl, refl)

-- clear reads no record, and held is lent none
pub case-unread : (lines_clock_clear 1 2 3 case_one ((7 ∷ 8 ∷ 8 ∷ 8 ∷ 8 ∷ []) ∷ (6 ∷ 6 ∷ 6 ∷ 6 ∷ 6 ∷ []) ∷ [])
    ≡ clock_after 0 bare_store ((0 ∷ 0 ∷ 0 ∷ 0 ∷ 0 ∷ []) ∷ (6 ∷ 6 ∷ 6 ∷ 6 ∷ 6 ∷ []) ∷ []))
    × (lines_clock_held 1 2 3 (0 ∷ 2 ∷ 5 ∷ 51 ∷ 510 ∷ 0 ∷ 0 ∷ 0 ∷ 0 ∷ 0 ∷ 0 ∷ 40000 ∷ 40 ∷ 400 ∷ 0 ∷ 0 ∷ 0 ∷ 0 ∷ 0 ∷ 0 ∷ 77 ∷ []) (9 ∷ 77 ∷ [])
    ≡ count_after 0 (2 ∷ 77 ∷ []))
unfolding lines_clock_cycle lines_clock_drain request_of count_answered refused_out lent_cleared lent_cycled lent_drains readable pending_of clock_cleared clock_held cycled drains drain_by is_refused cycle_ok due_ok had settled wipe choose taker giver goal seek leads lowest total due_of counted worked counts_below ascends owned line_ok lines_ok put_in without row_in row_set shape_ok power_of_two line_of blank untagged
case-unread = (refl, refl)
