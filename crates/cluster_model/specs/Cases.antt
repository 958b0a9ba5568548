-- A worked store, K = 2, levels 2, capacity 6: push 5/50, 3/30, 8/80, 1/10, 9/90 with lengths, then replace 4/7, pop and pop.
use Rattle.std.specs.Prelude.{◌++◌, ◌∷◌}
use Rattle.laws.specs.Prelude.{Answer, Empty, Full, List, NoTag, Pop, Push, Replace, Request, [], element, replicate, ℕ, Ok, None, Some, Err}
use Rattle.promise.specs.Prelude.{answers}
use Rattle.cluster_model.specs.Promise.{after, cluster_queue, start}

abbrev pub cluster_calls : List Request
cluster_calls = Push (element 5 50 500) ∷ Push (element 3 30 300) ∷ Push (element 8 80 800) ∷ Push (element 1 10 100) ∷ Push (element 9 90 900) ∷ []

-- the words after the pushes, after the replace, and after the two pops
unfoldable pub case_cluster : List (List ℕ)
case_cluster =
    after 2 2 cluster_calls (replicate 30 0) ∷ after 2 2 (cluster_calls ++ (Replace (element 4 7 70) ∷ [])) (replicate 30 0)
    ∷ after 2 2 (cluster_calls ++ (Replace (element 4 7 70) ∷ Pop ∷ Pop ∷ [])) (replicate 30 0) ∷ []

abbrev pub case_cluster_says : List (List ℕ)
case_cluster_says =
    -- 8/80 went left; 1/10 took the place of 5/50, which went right, and 9/90 went left
    (2 ∷ 1 ∷ 1 ∷ 10 ∷ 100 ∷ 1 ∷ 3 ∷ 30 ∷ 300 ∷ 1 ∷ 0 ∷ 0 ∷ 8 ∷ 80 ∷ 800 ∷ 1 ∷ 9 ∷ 90 ∷ 900 ∷ 1 ∷ 0 ∷ 0 ∷ 5 ∷ 50 ∷ 500 ∷ 1 ∷ 0 ∷ 0 ∷ 0 ∷ 0 ∷ [])
    -- 4/7 is lower than 5/50 and 8/80, and stays in the root
    ∷ (2 ∷ 1 ∷ 4 ∷ 7 ∷ 70 ∷ 1 ∷ 3 ∷ 30 ∷ 300 ∷ 1 ∷ 0 ∷ 0 ∷ 8 ∷ 80 ∷ 800 ∷ 1 ∷ 9 ∷ 90 ∷ 900 ∷ 1 ∷ 0 ∷ 0 ∷ 5 ∷ 50 ∷ 500 ∷ 1 ∷ 0 ∷ 0 ∷ 0 ∷ 0 ∷ [])
    -- 3/30 leaves, and 5/50 is lifted from the right; 4/7 leaves, and 8/80 is lifted from the left: its old place is four zeros
    ∷ (1 ∷ 0 ∷ 8 ∷ 80 ∷ 800 ∷ 1 ∷ 5 ∷ 50 ∷ 500 ∷ 1 ∷ 0 ∷ 0 ∷ 0 ∷ 0 ∷ 0 ∷ 0 ∷ 9 ∷ 90 ∷ 900 ∷ 1 ∷ 0 ∷ 0 ∷ 0 ∷ 0 ∷ 0 ∷ 0 ∷ 0 ∷ 0 ∷ 0 ∷ 0 ∷ [])
    ∷ []

-- .. and what calls are answered: a seventh push is refused 5, tag 0 is refused 7, equal ranks of one node leave by lower tag, and on the empty heap
-- pop and replace are refused 6
unfoldable pub case_cluster_answers : List (List Answer)
case_cluster_answers =
    answers (cluster_queue 2 2) (cluster_calls ++ (Push (element 2 20 200) ∷ Push (element 7 70 700) ∷ Push (element 7 0 700) ∷ Pop ∷ Pop ∷ [])) (start 2 2 (replicate 30 0))
    ∷ answers (cluster_queue 2 2) (Push (element 5 9 1) ∷ Push (element 5 4 2) ∷ Pop ∷ Pop ∷ Pop ∷ Replace (element 1 1 1) ∷ []) (start 2 2 (replicate 30 0)) ∷ []

abbrev pub case_cluster_answers_say : List (List Answer)
case_cluster_answers_say =
    ((Ok None) ∷ (Ok None) ∷ (Ok None) ∷ (Ok None) ∷ (Ok None) ∷ (Ok None) ∷ Err Full ∷ Err NoTag ∷ Ok (Some (element 1 10 100)) ∷ Ok (Some (element 2 20 200)) ∷ [])
    ∷ ((Ok None) ∷ (Ok None) ∷ Ok (Some (element 5 4 2)) ∷ Ok (Some (element 5 9 1)) ∷ Err Empty ∷ Err Empty ∷ []) ∷ []

-- replace 5/7 after the pushes: 5/50, the lowest below, is not strictly lower, and 5/7 stays in the root
unfoldable pub case_equal : List ℕ
case_equal = after 2 2 (cluster_calls ++ (Replace (element 5 7 70) ∷ [])) (replicate 30 0)

abbrev pub case_equal_says : List ℕ
case_equal_says = 2 ∷ 1 ∷ 5 ∷ 7 ∷ 70 ∷ 1 ∷ 3 ∷ 30 ∷ 300 ∷ 1 ∷ 0 ∷ 0 ∷ 8 ∷ 80 ∷ 800 ∷ 1 ∷ 9 ∷ 90 ∷ 900 ∷ 1 ∷ 0 ∷ 0 ∷ 5 ∷ 50 ∷ 500 ∷ 1 ∷ 0 ∷ 0 ∷ 0 ∷ 0 ∷ []
