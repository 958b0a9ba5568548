-- [9] "The strip's length travels with it", order 2, levels 2: store A with lengths, replace 4/7 and pop. And order 4 and 8, where a node has more empty slots than one.
use Rattle.std.specs.Prelude.{◌*◌, ◌++◌, ◌∷◌}
use Rattle.laws.specs.Prelude.{Answer, List, Pop, Push, Replace, Request, [], element, map, replicate, ℕ, Ok, None, Some}
use Rattle.promise.specs.Prelude.{answers}
use Rattle.tree_model.specs.Promise.{after, start, tree_queue}

abbrev pub length_calls : List Request
length_calls = Push (element 5 50 500) ∷ Push (element 3 30 300) ∷ Push (element 8 80 800) ∷ Push (element 1 10 100) ∷ []

-- the words after the pushes, after the replace, and after the pop
unfoldable pub case_lengths : List (List ℕ)
case_lengths =
    after 2 2 length_calls (replicate 24 0) ∷ after 2 2 (length_calls ++ (Replace (element 4 7 70) ∷ [])) (replicate 24 0)
    ∷ after 2 2 (length_calls ++ (Replace (element 4 7 70) ∷ Pop ∷ [])) (replicate 24 0) ∷ []

abbrev pub case_lengths_says : List (List ℕ)
case_lengths_says =
    -- 1/10/100 has taken the place of 3/30/300
    (5 ∷ 50 ∷ 500 ∷ 2 ∷ 1 ∷ 10 ∷ 100 ∷ 2 ∷ 8 ∷ 80 ∷ 800 ∷ 1 ∷ 0 ∷ 0 ∷ 0 ∷ 0 ∷ 3 ∷ 30 ∷ 300 ∷ 1 ∷ 0 ∷ 0 ∷ 0 ∷ 0 ∷ [])
    -- 3/30/300 is lifted, and 4/7/70 swapped in
    ∷ (5 ∷ 50 ∷ 500 ∷ 2 ∷ 3 ∷ 30 ∷ 300 ∷ 2 ∷ 8 ∷ 80 ∷ 800 ∷ 1 ∷ 0 ∷ 0 ∷ 0 ∷ 0 ∷ 4 ∷ 7 ∷ 70 ∷ 1 ∷ 0 ∷ 0 ∷ 0 ∷ 0 ∷ [])
    -- 4/7/70 is lifted, and its old slot is four zeros
    ∷ (5 ∷ 50 ∷ 500 ∷ 2 ∷ 4 ∷ 7 ∷ 70 ∷ 1 ∷ 8 ∷ 80 ∷ 800 ∷ 1 ∷ 0 ∷ 0 ∷ 0 ∷ 0 ∷ 0 ∷ 0 ∷ 0 ∷ 0 ∷ 0 ∷ 0 ∷ 0 ∷ 0 ∷ [])
    ∷ []

-- .. and what the calls are answered
unfoldable pub case_length_answers : List Answer
case_length_answers = answers (tree_queue 2 2) (length_calls ++ (Replace (element 4 7 70) ∷ Pop ∷ [])) (start 2 2 (replicate 24 0))

abbrev pub case_length_answers_say : List Answer
case_length_answers_say = (Ok None) ∷ (Ok None) ∷ (Ok None) ∷ (Ok None) ∷ Ok (Some (element 1 10 100)) ∷ Ok (Some (element 3 30 300)) ∷ []

-- ---- order 4 with two levels, and order 8 with one: the first empty slot of several, and the leftmost of the smallest counts
abbrev by_tens : List ℕ → List Request
by_tens = map (λ (r : ℕ). Push (element r (10 * r) (100 * r)))

unfoldable pub case_orders : List (List ℕ)
case_orders =
    after 4 2 (by_tens (5 ∷ 3 ∷ 8 ∷ []) ++ (Pop ∷ by_tens (1 ∷ 9 ∷ 2 ∷ 7 ∷ []))) (replicate 80 9)
    ∷ after 8 1 (by_tens (5 ∷ 3 ∷ 8 ∷ 1 ∷ 9 ∷ 2 ∷ 7 ∷ 4 ∷ []) ++ (Pop ∷ Pop ∷ by_tens (6 ∷ []))) (replicate 32 9)
    ∷ []

abbrev pub case_orders_says : List (List ℕ)
case_orders_says =
    -- 3/30/300 has left slot 1, and 1/10/100 goes there, not into slot 3; 2/20/200 sends 5/50/500 into the node under slot 0, 7/70/700 goes under slot 1
    ((2 ∷ 20 ∷ 200 ∷ 2 ∷ 1 ∷ 10 ∷ 100 ∷ 2 ∷ 8 ∷ 80 ∷ 800 ∷ 1 ∷ 9 ∷ 90 ∷ 900 ∷ 1 ∷ [])
    ++ (5 ∷ 50 ∷ 500 ∷ 1 ∷ replicate 12 0) ++ (7 ∷ 70 ∷ 700 ∷ 1 ∷ replicate 12 0) ++ replicate 32 0)
    -- 1/10/100 and 2/20/200 have left slots 3 and 5, and 6/60/600 goes into slot 3
    ∷ ((5 ∷ 50 ∷ 500 ∷ 1 ∷ 3 ∷ 30 ∷ 300 ∷ 1 ∷ 8 ∷ 80 ∷ 800 ∷ 1 ∷ 6 ∷ 60 ∷ 600 ∷ 1 ∷ [])
    ++ (9 ∷ 90 ∷ 900 ∷ 1 ∷ 0 ∷ 0 ∷ 0 ∷ 0 ∷ 7 ∷ 70 ∷ 700 ∷ 1 ∷ 4 ∷ 40 ∷ 400 ∷ 1 ∷ []))
    ∷ []
