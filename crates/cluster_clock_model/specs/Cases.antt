-- Worked machines in the middle of their work, with K = 2: the records, each as six numbers (kind, node, place, rank, tag, length), and the words. At levels 2,
-- 5/50, 3/30, 8/80, 1/10 pushed, then a pop, a push, a replace; at levels 3 with two operations in flight.
use Rattle.std.specs.Prelude.{◌++◌, ◌∷◌}
use Rattle.laws.specs.Prelude.{Answer, Empty, Idle, List, NoTag, Pop, Push, Replace, Request, [], element, replicate, ℕ, Ok, None, Some, Err}
use Rattle.cluster_clock_model.specs.Promise.{ran, cycle_answers}
use Rattle.cluster_clock_model.specs.Stage.{stage_at, stage_numbers}

abbrev pub four_pushes : List Request
four_pushes = Push (element 5 50 500) ∷ Push (element 3 30 300) ∷ Push (element 8 80 800) ∷ Push (element 1 10 100) ∷ []

-- the record of level 2, and the words
abbrev pub stood_two : List Request → List ℕ
stood_two rs = let x = ran 2 2 (four_pushes ++ rs) (replicate 30 0) in stage_numbers (stage_at x.records 0) ++ x.words

unfoldable pub case_clock : List (List ℕ)
case_clock =
    stood_two []
    ∷ stood_two (Idle ∷ [])
    ∷ stood_two (Idle ∷ Pop ∷ [])
    ∷ stood_two (Idle ∷ Pop ∷ Idle ∷ [])
    ∷ stood_two (Idle ∷ Pop ∷ Push (element 4 40 400) ∷ [])
    ∷ stood_two (Idle ∷ Pop ∷ Push (element 4 40 400) ∷ Idle ∷ [])
    ∷ stood_two (Idle ∷ Replace (element 6 7 70) ∷ [])
    ∷ stood_two (Idle ∷ Replace (element 6 7 70) ∷ Idle ∷ []) ∷ []

abbrev pub case_clock_says : List (List ℕ)
case_clock_says =
    -- 1/10 has taken the place of 5/50, which is put onto the right child one cycle later
    (1 ∷ 1 ∷ 0 ∷ 5 ∷ 50 ∷ 500 ∷ 1 ∷ 1 ∷ 1 ∷ 10 ∷ 100 ∷ 1 ∷ 3 ∷ 30 ∷ 300 ∷ 1 ∷ 0 ∷ 0 ∷ 8 ∷ 80 ∷ 800 ∷ 1 ∷ 0 ∷ 0 ∷ 0 ∷ 0 ∷ 0 ∷ 0 ∷ 0 ∷ 0 ∷ 0 ∷ 0 ∷ 0 ∷ 0 ∷ 0 ∷ 0 ∷ [])
    -- drained
    ∷ (0 ∷ 0 ∷ 0 ∷ 0 ∷ 0 ∷ 0 ∷ 1 ∷ 1 ∷ 1 ∷ 10 ∷ 100 ∷ 1 ∷ 3 ∷ 30 ∷ 300 ∷ 1 ∷ 0 ∷ 0 ∷ 8 ∷ 80 ∷ 800 ∷ 1 ∷ 0 ∷ 0 ∷ 0 ∷ 0 ∷ 0 ∷ 0 ∷ 5 ∷ 50 ∷ 500 ∷ 1 ∷ 0 ∷ 0 ∷ 0 ∷ 0 ∷ [])
    -- pop: answers 1/10 and leaves a gap; nothing is lifted yet
    ∷ (2 ∷ 0 ∷ 0 ∷ 0 ∷ 0 ∷ 0 ∷ 1 ∷ 1 ∷ 0 ∷ 0 ∷ 0 ∷ 0 ∷ 3 ∷ 30 ∷ 300 ∷ 1 ∷ 0 ∷ 0 ∷ 8 ∷ 80 ∷ 800 ∷ 1 ∷ 0 ∷ 0 ∷ 0 ∷ 0 ∷ 0 ∷ 0 ∷ 5 ∷ 50 ∷ 500 ∷ 1 ∷ 0 ∷ 0 ∷ 0 ∷ 0 ∷ [])
    -- .. one cycle later 5/50 is lifted from the right child, which gives it
    ∷ (0 ∷ 0 ∷ 0 ∷ 0 ∷ 0 ∷ 0 ∷ 1 ∷ 0 ∷ 5 ∷ 50 ∷ 500 ∷ 1 ∷ 3 ∷ 30 ∷ 300 ∷ 1 ∷ 0 ∷ 0 ∷ 8 ∷ 80 ∷ 800 ∷ 1 ∷ 0 ∷ 0 ∷ 0 ∷ 0 ∷ 0 ∷ 0 ∷ 0 ∷ 0 ∷ 0 ∷ 0 ∷ 0 ∷ 0 ∷ 0 ∷ 0 ∷ [])
    -- pop, push 4/40: 5/50 is lifted, 4/40 takes its place, and it goes down again
    ∷ (1 ∷ 1 ∷ 0 ∷ 5 ∷ 50 ∷ 500 ∷ 1 ∷ 1 ∷ 4 ∷ 40 ∷ 400 ∷ 1 ∷ 3 ∷ 30 ∷ 300 ∷ 1 ∷ 0 ∷ 0 ∷ 8 ∷ 80 ∷ 800 ∷ 1 ∷ 0 ∷ 0 ∷ 0 ∷ 0 ∷ 0 ∷ 0 ∷ 0 ∷ 0 ∷ 0 ∷ 0 ∷ 0 ∷ 0 ∷ 0 ∷ 0 ∷ [])
    -- .. one cycle later it is back
    ∷ (0 ∷ 0 ∷ 0 ∷ 0 ∷ 0 ∷ 0 ∷ 1 ∷ 1 ∷ 4 ∷ 40 ∷ 400 ∷ 1 ∷ 3 ∷ 30 ∷ 300 ∷ 1 ∷ 0 ∷ 0 ∷ 8 ∷ 80 ∷ 800 ∷ 1 ∷ 0 ∷ 0 ∷ 0 ∷ 0 ∷ 0 ∷ 0 ∷ 5 ∷ 50 ∷ 500 ∷ 1 ∷ 0 ∷ 0 ∷ 0 ∷ 0 ∷ [])
    -- replace 6/7: answers 1/10, and 6/7 is on trial in its place
    ∷ (3 ∷ 0 ∷ 0 ∷ 6 ∷ 7 ∷ 70 ∷ 1 ∷ 1 ∷ 6 ∷ 7 ∷ 70 ∷ 1 ∷ 3 ∷ 30 ∷ 300 ∷ 1 ∷ 0 ∷ 0 ∷ 8 ∷ 80 ∷ 800 ∷ 1 ∷ 0 ∷ 0 ∷ 0 ∷ 0 ∷ 0 ∷ 0 ∷ 5 ∷ 50 ∷ 500 ∷ 1 ∷ 0 ∷ 0 ∷ 0 ∷ 0 ∷ [])
    -- .. one cycle later it has changed places with 5/50
    ∷ (0 ∷ 0 ∷ 0 ∷ 0 ∷ 0 ∷ 0 ∷ 1 ∷ 1 ∷ 5 ∷ 50 ∷ 500 ∷ 1 ∷ 3 ∷ 30 ∷ 300 ∷ 1 ∷ 0 ∷ 0 ∷ 8 ∷ 80 ∷ 800 ∷ 1 ∷ 0 ∷ 0 ∷ 0 ∷ 0 ∷ 0 ∷ 0 ∷ 6 ∷ 7 ∷ 70 ∷ 1 ∷ 0 ∷ 0 ∷ 0 ∷ 0 ∷ [])
    ∷ []

-- levels 3: the records of levels 2 and 3, and the words
abbrev pub eight_pushes : List Request
eight_pushes = Push (element 1 10 100) ∷ Push (element 2 20 200) ∷ Push (element 3 30 300) ∷ Push (element 4 40 400) ∷ Push (element 5 50 500) ∷ Push (element 6 60 600) ∷ Push (element 7 70 700) ∷ Push (element 8 80 800) ∷ []

abbrev pub stood_three : List Request → List ℕ
stood_three rs = let x = ran 2 3 (eight_pushes ++ rs) (replicate 70 0) in stage_numbers (stage_at x.records 0) ++ (stage_numbers (stage_at x.records 1) ++ x.words)

unfoldable pub case_flight : List (List ℕ)
case_flight =
    stood_three []
    ∷ stood_three (Pop ∷ [])
    ∷ stood_three (Pop ∷ Replace (element 9 90 900) ∷ [])
    ∷ stood_three (Pop ∷ Replace (element 9 90 900) ∷ Push (element 2 25 250) ∷ [])
    ∷ stood_three (Pop ∷ Replace (element 9 90 900) ∷ Push (element 2 25 250) ∷ Idle ∷ Idle ∷ []) ∷ []

abbrev pub case_flight_says : List (List ℕ)
case_flight_says =
    -- 7/70 and 8/80 on their way down, one a level below the other
    (1 ∷ 1 ∷ 0 ∷ 8 ∷ 80 ∷ 800 ∷ 1 ∷ 0 ∷ 0 ∷ 7 ∷ 70 ∷ 700 ∷ 3 ∷ 3 ∷ 1 ∷ 10 ∷ 100 ∷ 1 ∷ 2 ∷ 20 ∷ 200 ∷ 1 ∷ 1 ∷ 0 ∷ 3 ∷ 30 ∷ 300 ∷ 1 ∷ 5 ∷ 50 ∷ 500 ∷ 1 ∷ 0 ∷ 0 ∷ 4 ∷ 40 ∷ 400 ∷ 1 ∷ 6 ∷ 60 ∷ 600 ∷ 1 ∷ 0 ∷ 0 ∷ 0 ∷ 0 ∷ 0 ∷ 0 ∷ 0 ∷ 0 ∷ 0 ∷ 0 ∷ 0 ∷ 0 ∷ 0 ∷ 0 ∷ 0 ∷ 0 ∷ 0 ∷ 0 ∷ 0 ∷ 0 ∷ 0 ∷ 0 ∷ 0 ∷ 0 ∷ 0 ∷ 0 ∷ 0 ∷ 0 ∷ 0 ∷ 0 ∷ 0 ∷ 0 ∷ 0 ∷ 0 ∷ 0 ∷ 0 ∷ 0 ∷ 0 ∷ 0 ∷ 0 ∷ [])
    -- pop: a gap in the root, while 8/80 goes on
    ∷ (2 ∷ 0 ∷ 0 ∷ 0 ∷ 0 ∷ 0 ∷ 1 ∷ 2 ∷ 0 ∷ 8 ∷ 80 ∷ 800 ∷ 3 ∷ 3 ∷ 0 ∷ 0 ∷ 0 ∷ 0 ∷ 2 ∷ 20 ∷ 200 ∷ 1 ∷ 1 ∷ 0 ∷ 3 ∷ 30 ∷ 300 ∷ 1 ∷ 5 ∷ 50 ∷ 500 ∷ 1 ∷ 1 ∷ 0 ∷ 4 ∷ 40 ∷ 400 ∷ 1 ∷ 6 ∷ 60 ∷ 600 ∷ 1 ∷ 0 ∷ 0 ∷ 7 ∷ 70 ∷ 700 ∷ 1 ∷ 0 ∷ 0 ∷ 0 ∷ 0 ∷ 0 ∷ 0 ∷ 0 ∷ 0 ∷ 0 ∷ 0 ∷ 0 ∷ 0 ∷ 0 ∷ 0 ∷ 0 ∷ 0 ∷ 0 ∷ 0 ∷ 0 ∷ 0 ∷ 0 ∷ 0 ∷ 0 ∷ 0 ∷ 0 ∷ 0 ∷ 0 ∷ 0 ∷ 0 ∷ 0 ∷ 0 ∷ 0 ∷ 0 ∷ 0 ∷ [])
    -- replace 9/90: the gap is filled with 3/30, whose node has one now; 9/90 is on trial
    ∷ (3 ∷ 0 ∷ 1 ∷ 9 ∷ 90 ∷ 900 ∷ 2 ∷ 0 ∷ 0 ∷ 0 ∷ 0 ∷ 0 ∷ 2 ∷ 3 ∷ 3 ∷ 30 ∷ 300 ∷ 1 ∷ 9 ∷ 90 ∷ 900 ∷ 1 ∷ 1 ∷ 0 ∷ 0 ∷ 0 ∷ 0 ∷ 0 ∷ 5 ∷ 50 ∷ 500 ∷ 1 ∷ 1 ∷ 0 ∷ 4 ∷ 40 ∷ 400 ∷ 1 ∷ 6 ∷ 60 ∷ 600 ∷ 1 ∷ 0 ∷ 0 ∷ 7 ∷ 70 ∷ 700 ∷ 1 ∷ 0 ∷ 0 ∷ 0 ∷ 0 ∷ 0 ∷ 0 ∷ 0 ∷ 0 ∷ 0 ∷ 0 ∷ 0 ∷ 0 ∷ 0 ∷ 0 ∷ 0 ∷ 0 ∷ 8 ∷ 80 ∷ 800 ∷ 1 ∷ 0 ∷ 0 ∷ 0 ∷ 0 ∷ 0 ∷ 0 ∷ 0 ∷ 0 ∷ 0 ∷ 0 ∷ 0 ∷ 0 ∷ 0 ∷ 0 ∷ [])
    -- push 2/25: 4/40 is lifted for 9/90, which is on trial below; 2/25 sends 4/40 down again
    ∷ (1 ∷ 0 ∷ 0 ∷ 4 ∷ 40 ∷ 400 ∷ 3 ∷ 1 ∷ 0 ∷ 9 ∷ 90 ∷ 900 ∷ 3 ∷ 3 ∷ 3 ∷ 30 ∷ 300 ∷ 1 ∷ 2 ∷ 25 ∷ 250 ∷ 1 ∷ 0 ∷ 0 ∷ 7 ∷ 70 ∷ 700 ∷ 1 ∷ 5 ∷ 50 ∷ 500 ∷ 1 ∷ 1 ∷ 0 ∷ 9 ∷ 90 ∷ 900 ∷ 1 ∷ 6 ∷ 60 ∷ 600 ∷ 1 ∷ 0 ∷ 0 ∷ 0 ∷ 0 ∷ 0 ∷ 0 ∷ 0 ∷ 0 ∷ 0 ∷ 0 ∷ 0 ∷ 0 ∷ 0 ∷ 0 ∷ 0 ∷ 0 ∷ 0 ∷ 0 ∷ 0 ∷ 0 ∷ 0 ∷ 0 ∷ 8 ∷ 80 ∷ 800 ∷ 1 ∷ 0 ∷ 0 ∷ 0 ∷ 0 ∷ 0 ∷ 0 ∷ 0 ∷ 0 ∷ 0 ∷ 0 ∷ 0 ∷ 0 ∷ 0 ∷ 0 ∷ [])
    -- two idle cycles later all is at rest
    ∷ (0 ∷ 0 ∷ 0 ∷ 0 ∷ 0 ∷ 0 ∷ 0 ∷ 0 ∷ 0 ∷ 0 ∷ 0 ∷ 0 ∷ 3 ∷ 3 ∷ 3 ∷ 30 ∷ 300 ∷ 1 ∷ 2 ∷ 25 ∷ 250 ∷ 1 ∷ 1 ∷ 0 ∷ 4 ∷ 40 ∷ 400 ∷ 1 ∷ 5 ∷ 50 ∷ 500 ∷ 1 ∷ 1 ∷ 0 ∷ 8 ∷ 80 ∷ 800 ∷ 1 ∷ 6 ∷ 60 ∷ 600 ∷ 1 ∷ 0 ∷ 0 ∷ 7 ∷ 70 ∷ 700 ∷ 1 ∷ 0 ∷ 0 ∷ 0 ∷ 0 ∷ 0 ∷ 0 ∷ 0 ∷ 0 ∷ 0 ∷ 0 ∷ 0 ∷ 0 ∷ 0 ∷ 0 ∷ 0 ∷ 0 ∷ 9 ∷ 90 ∷ 900 ∷ 1 ∷ 0 ∷ 0 ∷ 0 ∷ 0 ∷ 0 ∷ 0 ∷ 0 ∷ 0 ∷ 0 ∷ 0 ∷ 0 ∷ 0 ∷ 0 ∷ 0 ∷ [])
    ∷ []

-- .. and what cycles are answered, one a cycle: the lowest each time, also where it came in the cycle before; an empty heap refuses 6, tag 0 is refused 7
unfoldable pub case_flight_answers : List Answer
case_flight_answers = cycle_answers 2 3 (eight_pushes ++ (Pop ∷ Replace (element 9 90 900) ∷ Push (element 2 25 250) ∷ Pop ∷ Pop ∷ Pop ∷ Replace (element 1 1 10) ∷ Pop ∷ Pop ∷ Pop ∷ Pop ∷ Pop ∷ Pop ∷ Push (element 1 0 0) ∷ [])) (replicate 70 0)

abbrev pub case_flight_answers_say : List Answer
case_flight_answers_say = (Ok None) ∷ (Ok None) ∷ (Ok None) ∷ (Ok None) ∷ (Ok None) ∷ (Ok None) ∷ (Ok None) ∷ (Ok None) ∷ Ok (Some (element 1 10 100)) ∷ Ok (Some (element 2 20 200)) ∷ (Ok None) ∷ Ok (Some (element 2 25 250)) ∷ Ok (Some (element 3 30 300)) ∷ Ok (Some (element 4 40 400)) ∷ Ok (Some (element 5 50 500)) ∷ Ok (Some (element 1 1 10)) ∷ Ok (Some (element 6 60 600)) ∷ Ok (Some (element 7 70 700)) ∷ Ok (Some (element 8 80 800)) ∷ Ok (Some (element 9 90 900)) ∷ Err Empty ∷ Err NoTag ∷ []

-- equal ranks, two pops in a row: 3/20 is lifted in the cycle in which 3/30 leaves. The place that gives is the one chosen at the cycle's start, before the gap is
-- filled; one operation at a time would give 3/20 first
abbrev pub tie_cycles : List Request
tie_cycles = Push (element 1 10 100) ∷ Push (element 3 30 300) ∷ Push (element 3 20 200) ∷ Pop ∷ Pop ∷ []

unfoldable pub case_tie : List (List ℕ)
case_tie = (let x = ran 2 2 tie_cycles (replicate 30 0) in stage_numbers (stage_at x.records 0) ++ x.words) ∷ []

abbrev pub case_tie_says : List (List ℕ)
case_tie_says = (0 ∷ 0 ∷ 0 ∷ 0 ∷ 0 ∷ 0 ∷ 0 ∷ 0 ∷ 3 ∷ 20 ∷ 200 ∷ 1 ∷ 0 ∷ 0 ∷ 0 ∷ 0 ∷ 0 ∷ 0 ∷ 0 ∷ 0 ∷ 0 ∷ 0 ∷ 0 ∷ 0 ∷ 0 ∷ 0 ∷ 0 ∷ 0 ∷ 0 ∷ 0 ∷ 0 ∷ 0 ∷ 0 ∷ 0 ∷ 0 ∷ 0 ∷ []) ∷ []

unfoldable pub case_tie_answers : List Answer
case_tie_answers = cycle_answers 2 2 (tie_cycles ++ (Pop ∷ Pop ∷ [])) (replicate 30 0)

abbrev pub case_tie_answers_say : List Answer
case_tie_answers_say = (Ok None) ∷ (Ok None) ∷ (Ok None) ∷ Ok (Some (element 1 10 100)) ∷ Ok (Some (element 3 30 300)) ∷ Ok (Some (element 3 20 200)) ∷ Err Empty ∷ []

-- K = 3, levels 2: a gap made in one cycle is filled in the next, also where that cycle makes another. The record of level 2, and the words
abbrev pub stood_of_three : List Request → List ℕ
stood_of_three rs =
    let x = ran 3 2 (Push (element 1 10 100) ∷ Push (element 2 20 200) ∷ Push (element 3 30 300) ∷ Push (element 4 40 400) ∷ Idle ∷ rs) (replicate 42 0) in
    stage_numbers (stage_at x.records 0) ++ x.words

unfoldable pub case_gap : List (List ℕ)
case_gap = stood_of_three [] ∷ stood_of_three (Pop ∷ []) ∷ stood_of_three (Pop ∷ Idle ∷ []) ∷ stood_of_three (Pop ∷ Pop ∷ []) ∷ []

abbrev pub case_gap_says : List (List ℕ)
case_gap_says =
    (0 ∷ 0 ∷ 0 ∷ 0 ∷ 0 ∷ 0 ∷ 1 ∷ 0 ∷ 1 ∷ 10 ∷ 100 ∷ 1 ∷ 2 ∷ 20 ∷ 200 ∷ 1 ∷ 3 ∷ 30 ∷ 300 ∷ 1 ∷ 0 ∷ 0 ∷ 4 ∷ 40 ∷ 400 ∷ 1 ∷ 0 ∷ 0 ∷ 0 ∷ 0 ∷ 0 ∷ 0 ∷ 0 ∷ 0 ∷ 0 ∷ 0 ∷ 0 ∷ 0 ∷ 0 ∷ 0 ∷ 0 ∷ 0 ∷ 0 ∷ 0 ∷ 0 ∷ 0 ∷ 0 ∷ 0 ∷ [])
    -- pop: a gap in place 0 of the root
    ∷ (2 ∷ 0 ∷ 0 ∷ 0 ∷ 0 ∷ 0 ∷ 1 ∷ 0 ∷ 0 ∷ 0 ∷ 0 ∷ 0 ∷ 2 ∷ 20 ∷ 200 ∷ 1 ∷ 3 ∷ 30 ∷ 300 ∷ 1 ∷ 0 ∷ 0 ∷ 4 ∷ 40 ∷ 400 ∷ 1 ∷ 0 ∷ 0 ∷ 0 ∷ 0 ∷ 0 ∷ 0 ∷ 0 ∷ 0 ∷ 0 ∷ 0 ∷ 0 ∷ 0 ∷ 0 ∷ 0 ∷ 0 ∷ 0 ∷ 0 ∷ 0 ∷ 0 ∷ 0 ∷ 0 ∷ 0 ∷ [])
    -- .. one cycle later it is filled with 4/40
    ∷ (0 ∷ 0 ∷ 0 ∷ 0 ∷ 0 ∷ 0 ∷ 0 ∷ 0 ∷ 4 ∷ 40 ∷ 400 ∷ 1 ∷ 2 ∷ 20 ∷ 200 ∷ 1 ∷ 3 ∷ 30 ∷ 300 ∷ 1 ∷ 0 ∷ 0 ∷ 0 ∷ 0 ∷ 0 ∷ 0 ∷ 0 ∷ 0 ∷ 0 ∷ 0 ∷ 0 ∷ 0 ∷ 0 ∷ 0 ∷ 0 ∷ 0 ∷ 0 ∷ 0 ∷ 0 ∷ 0 ∷ 0 ∷ 0 ∷ 0 ∷ 0 ∷ 0 ∷ 0 ∷ 0 ∷ 0 ∷ [])
    -- .. or, with a pop in that cycle, it is filled and 2/20 leaves a gap with nothing below
    ∷ (0 ∷ 0 ∷ 0 ∷ 0 ∷ 0 ∷ 0 ∷ 0 ∷ 0 ∷ 4 ∷ 40 ∷ 400 ∷ 1 ∷ 0 ∷ 0 ∷ 0 ∷ 0 ∷ 3 ∷ 30 ∷ 300 ∷ 1 ∷ 0 ∷ 0 ∷ 0 ∷ 0 ∷ 0 ∷ 0 ∷ 0 ∷ 0 ∷ 0 ∷ 0 ∷ 0 ∷ 0 ∷ 0 ∷ 0 ∷ 0 ∷ 0 ∷ 0 ∷ 0 ∷ 0 ∷ 0 ∷ 0 ∷ 0 ∷ 0 ∷ 0 ∷ 0 ∷ 0 ∷ 0 ∷ 0 ∷ [])
    ∷ []
