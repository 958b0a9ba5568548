-- The rules' worked store: H = 2, L = 2, pushes of 5/50, 3/30, 9/90 at heap 0 and of 8/80, 1/10 at heap 1; then a full heap, a heap that is not there, a push
-- without a tag, a pop, a replace and pops to the end at heap 0.
use Rattle.std.specs.Prelude.{◌++◌, ◌∷◌}
use Rattle.laws.specs.Prelude.{Answer, List, Pop, Push, Replace, Request, [], element, element_numbers, element_of, map, number_of, replicate, ℕ}
use Rattle.packed_model.specs.Calls.{called}
use Rattle.packed_model.specs.Promise.{after, said}
use Rattle.promise.specs.Forest.{At}

abbrev pub at : ℕ → Request → At
at h r = record { queue = h; asks = r }

abbrev pub packed_calls : List At
packed_calls =
    at 0 (Push (element 5 50 500)) ∷ at 0 (Push (element 3 30 300)) ∷ at 0 (Push (element 9 90 900)) ∷ at 1 (Push (element 8 80 800)) ∷ at 1 (Push (element 1 10 100)) ∷ []

abbrev pub more_calls : List At
more_calls = at 0 (Push (element 7 70 700)) ∷ at 2 Pop ∷ at 1 (Push (element 7 0 700)) ∷ at 0 Pop ∷ at 0 (Replace (element 9 91 1)) ∷ at 0 Pop ∷ at 0 Pop ∷ at 0 Pop ∷ []

-- the words of a slice that has these 20, and of one that has one more
unfoldable pub case_packed : List (List ℕ)
case_packed = after 2 2 packed_calls (replicate 20 7) ∷ after 2 2 (packed_calls ++ more_calls) (replicate 21 7) ∷ []

abbrev pub case_packed_says : List (List ℕ)
case_packed_says =
    (3 ∷ 2 ∷ 3 ∷ 30 ∷ 300 ∷ 1 ∷ 10 ∷ 100 ∷ 5 ∷ 50 ∷ 500 ∷ 9 ∷ 90 ∷ 900 ∷ 8 ∷ 80 ∷ 800 ∷ 0 ∷ 0 ∷ 0 ∷ [])
    ∷ (0 ∷ 2 ∷ 0 ∷ 0 ∷ 0 ∷ 1 ∷ 10 ∷ 100 ∷ 0 ∷ 0 ∷ 0 ∷ 0 ∷ 0 ∷ 0 ∷ 8 ∷ 80 ∷ 800 ∷ 0 ∷ 0 ∷ 0 ∷ 7 ∷ []) ∷ []

-- number, rank, tag and length of each answer
abbrev pub plainly : Answer → List ℕ
plainly a = number_of a ∷ element_numbers (element_of a)

unfoldable pub case_packed_answers : List (List ℕ)
case_packed_answers = map plainly (said 2 2 (packed_calls ++ more_calls) (replicate 20 7))

abbrev pub done : List ℕ
done = 0 ∷ 0 ∷ 0 ∷ 0 ∷ []

-- full; no such heap; no tag; 3/30 leaves and 9/90 is sunk, which stays under 5/50; 5/50 leaves for 9/91, which is not higher than 9/90; of equal ranks the
-- one at the top
abbrev pub case_packed_answers_say : List (List ℕ)
case_packed_answers_say =
    done ∷ done ∷ done ∷ done ∷ done ∷ (5 ∷ 0 ∷ 0 ∷ 0 ∷ []) ∷ (12 ∷ 0 ∷ 0 ∷ 0 ∷ []) ∷ (7 ∷ 0 ∷ 0 ∷ 0 ∷ []) ∷ (0 ∷ 3 ∷ 30 ∷ 300 ∷ []) ∷ (0 ∷ 5 ∷ 50 ∷ 500 ∷ [])
    ∷ (0 ∷ 9 ∷ 91 ∷ 1 ∷ []) ∷ (0 ∷ 9 ∷ 90 ∷ 900 ∷ []) ∷ (6 ∷ 0 ∷ 0 ∷ 0 ∷ []) ∷ []

-- ---- equal ranks: one heap of two levels. A put of rank 4 does not take the place of 4/41; of two children of equal rank the left one is lifted, and none past an x of its rank
abbrev pub even_calls : List At
even_calls = at 0 (Push (element 4 41 410)) ∷ at 0 (Push (element 4 42 420)) ∷ at 0 (Push (element 4 43 430)) ∷ []

unfoldable pub case_even : List (List ℕ)
case_even =
    after 1 2 even_calls (replicate 10 7) ∷ after 1 2 (even_calls ++ (at 0 (Replace (element 9 90 900)) ∷ [])) (replicate 10 7)
    ∷ after 1 2 (even_calls ++ (at 0 (Replace (element 4 44 440)) ∷ [])) (replicate 10 7) ∷ []

abbrev pub case_even_says : List (List ℕ)
case_even_says =
    (3 ∷ 4 ∷ 41 ∷ 410 ∷ 4 ∷ 42 ∷ 420 ∷ 4 ∷ 43 ∷ 430 ∷ []) ∷ (3 ∷ 4 ∷ 42 ∷ 420 ∷ 9 ∷ 90 ∷ 900 ∷ 4 ∷ 43 ∷ 430 ∷ []) ∷ (3 ∷ 4 ∷ 44 ∷ 440 ∷ 4 ∷ 42 ∷ 420 ∷ 4 ∷ 43 ∷ 430 ∷ []) ∷ []

-- ---- a pop that sinks three levels deep, and a put steered to the last position but one: one heap of three levels
abbrev pub deep_calls : List At
deep_calls =
    at 0 (Push (element 1 10 100)) ∷ at 0 (Push (element 3 30 300)) ∷ at 0 (Push (element 2 20 200)) ∷ at 0 (Push (element 7 70 700)) ∷ at 0 (Push (element 6 60 600))
    ∷ at 0 (Push (element 5 50 500)) ∷ []

unfoldable pub case_deep : List (List ℕ)
case_deep = after 1 3 deep_calls (replicate 22 7) ∷ after 1 3 (deep_calls ++ (at 0 Pop ∷ [])) (replicate 22 7) ∷ after 1 3 (deep_calls ++ (at 0 Pop ∷ at 0 Pop ∷ [])) (replicate 22 7) ∷ []

abbrev pub case_deep_says : List (List ℕ)
case_deep_says =
    (6 ∷ 1 ∷ 10 ∷ 100 ∷ 3 ∷ 30 ∷ 300 ∷ 2 ∷ 20 ∷ 200 ∷ 7 ∷ 70 ∷ 700 ∷ 6 ∷ 60 ∷ 600 ∷ 5 ∷ 50 ∷ 500 ∷ 0 ∷ 0 ∷ 0 ∷ [])
    ∷ (5 ∷ 2 ∷ 20 ∷ 200 ∷ 3 ∷ 30 ∷ 300 ∷ 5 ∷ 50 ∷ 500 ∷ 7 ∷ 70 ∷ 700 ∷ 6 ∷ 60 ∷ 600 ∷ 0 ∷ 0 ∷ 0 ∷ 0 ∷ 0 ∷ 0 ∷ [])
    ∷ (4 ∷ 3 ∷ 30 ∷ 300 ∷ 6 ∷ 60 ∷ 600 ∷ 5 ∷ 50 ∷ 500 ∷ 7 ∷ 70 ∷ 700 ∷ 0 ∷ 0 ∷ 0 ∷ 0 ∷ 0 ∷ 0 ∷ 0 ∷ 0 ∷ 0 ∷ []) ∷ []

-- ---- damage, each test by words that fail it alone: the number that a call at heap 0 of one with two levels is answered
abbrev pub spoilt : Request → List ℕ → ℕ
spoilt r ws = number_of (called 1 2 0 r ws).answer

unfoldable pub case_spoilt : List ℕ
case_spoilt =
    spoilt Pop (4 ∷ 3 ∷ 30 ∷ 300 ∷ 5 ∷ 50 ∷ 500 ∷ 9 ∷ 90 ∷ 900 ∷ []) ∷ spoilt Pop (0 ∷ 0 ∷ 0 ∷ 300 ∷ 0 ∷ 0 ∷ 0 ∷ 0 ∷ 0 ∷ 0 ∷ []) ∷ spoilt Pop (1 ∷ 3 ∷ 0 ∷ 300 ∷ 0 ∷ 0 ∷ 0 ∷ 0 ∷ 0 ∷ 0 ∷ [])
    ∷ spoilt (Push (element 2 20 200)) (1 ∷ 3 ∷ 30 ∷ 300 ∷ 0 ∷ 0 ∷ 500 ∷ 0 ∷ 0 ∷ 0 ∷ []) ∷ spoilt (Push (element 2 20 200)) (1 ∷ 3 ∷ 30 ∷ 300 ∷ 0 ∷ 0 ∷ 0 ∷ 9 ∷ 90 ∷ 900 ∷ [])
    ∷ spoilt Pop (2 ∷ 3 ∷ 30 ∷ 300 ∷ 5 ∷ 0 ∷ 500 ∷ 0 ∷ 0 ∷ 0 ∷ []) ∷ spoilt Pop (2 ∷ 3 ∷ 30 ∷ 300 ∷ 5 ∷ 50 ∷ 500 ∷ 9 ∷ 0 ∷ 0 ∷ []) ∷ spoilt Pop (3 ∷ 3 ∷ 30 ∷ 300 ∷ 5 ∷ 0 ∷ 500 ∷ 9 ∷ 90 ∷ 900 ∷ [])
    ∷ spoilt (Replace (element 2 20 200)) (2 ∷ 3 ∷ 30 ∷ 300 ∷ 5 ∷ 50 ∷ 500 ∷ 0 ∷ 0 ∷ 900 ∷ []) ∷ spoilt (Replace (element 2 20 200)) (3 ∷ 3 ∷ 30 ∷ 300 ∷ 5 ∷ 50 ∷ 500 ∷ 9 ∷ 0 ∷ 900 ∷ [])
    ∷ spoilt (Replace (element 2 20 200)) (3 ∷ 9 ∷ 30 ∷ 300 ∷ 5 ∷ 50 ∷ 500 ∷ 2 ∷ 90 ∷ 900 ∷ []) ∷ []

-- held above 3; an empty heap whose top is not; no top; the next position not empty; (the position after that is not read); the last entry without a tag; a word above
-- position 1, once the last is gone; a child without a tag; a word above position 2; a child without a tag; (ranks are not tested)
abbrev pub case_spoilt_says : List ℕ
case_spoilt_says = 2 ∷ 2 ∷ 2 ∷ 2 ∷ 0 ∷ 2 ∷ 2 ∷ 2 ∷ 2 ∷ 2 ∷ 0 ∷ []
