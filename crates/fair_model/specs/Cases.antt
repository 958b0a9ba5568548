-- Worked cases, order 2, levels 2: the bound reached, every refusal, and the largest finish.
use Rattle.std.specs.Prelude.{◌*◌, ◌++◌, ◌+◌, ◌∷◌}
use Rattle.laws.specs.Prelude.{List, [], get_or, map, replicate, take, ℕ}
use Rattle.promise.specs.Prelude.{answers, leaves}
use Rattle.fair_model.specs.Calls.{answer_number, Desk, desk, pushes, Reply, resets, served_element}
use Rattle.fair_model.specs.Promise.{Call, Entry, fair_queue, opened, pop, push, reset, served_in}
use Rattle.fair_model.specs.Ranks.{step}
use Rattle.fair_model.specs.Answers.{FairAnswer}

-- what is said, in numbers: the number, and the rank, tag and length of what is served
abbrev pub told_fair : FairAnswer → ℕ × ℕ × ℕ × ℕ
told_fair a = (answer_number a, (served_element a).rank.0, (served_element a).tag.0, (served_element a).length.0)

-- ---- THE BOUND REACHED: two flows of weight 1, all strips of 144 cells. Store and state are garbage to begin with, and longer than needed
abbrev pub case_store : List ℕ
case_store = replicate 26 9

abbrev pub case_state : List ℕ
case_state = replicate 66 9

abbrev of : Call → ℕ → Entry
of c q = record { call = c; place = q }

-- flow 0 twice, flow 1, a pop that serves flow 0, flow 1 twice; ..
abbrev pub case_before : List Entry
case_before = of (push 0 1 9216 10) 0 ∷ of (push 0 1 9216 90) 0 ∷ of (push 1 1 9216 20) 0 ∷ of pop 0 ∷ of (push 1 1 9216 21) 0 ∷ of (push 1 1 9216 22) 0 ∷ []

-- .. and in the stretch two pops that both serve flow 1, since flow 0's second strip has the rank of flow 1's second and a higher tag
abbrev pub case_stretch : List Entry
case_stretch = of pop 1 ∷ of pop 1 ∷ []

-- the cells served of flow 0 and of flow 1, by how much cells times step differ, and the bound
unfoldable pub case_served : List (List ℕ)
case_served =
    (served_in 2 2 case_store [] case_state case_before case_stretch 0
    ∷ served_in 2 2 case_store [] case_state case_before case_stretch 1
    ∷ (served_in 2 2 case_store [] case_state case_before case_stretch 1 * step 1)
    ∷ (144 * step 1 + 144 * step 1)
    ∷ [])
    ∷ []

abbrev pub case_served_says : List (List ℕ)
case_served_says = (0 ∷ 288 ∷ 18874368 ∷ 18874368 ∷ []) ∷ []

-- ---- what calls are answered from a reset, and the state's words that they leave
abbrev pub case_calls : List Call
case_calls =
    -- 9: a flow, a weight, a length outside the limits, before all else
    push 64 1 64 1 ∷ push 0 0 64 1 ∷ push 0 1025 64 1 ∷ push 0 1 0 1 ∷ push 0 1 9217 1
    -- 7, and nothing is noted; 6
    ∷ push 5 1 64 0 ∷ pop
    -- flow 5, weight 3, 65 bytes: two cells of 21,845; the next strip of the flow begins at the last one's finish, that of flow 6 at the clock
    ∷ push 5 3 65 50 ∷ push 5 3 64 51 ∷ push 6 1024 9216 60 ∷ pop ∷ push 6 1024 64 61
    -- 11 while anything is held; then the rest, and a reset
    ∷ reset ∷ pop ∷ pop ∷ pop ∷ reset ∷ []

unfoldable pub case_fair : List (ℕ × ℕ × ℕ × ℕ)
case_fair = map told_fair (answers (fair_queue 2 2) case_calls (opened 2 2 case_store [] case_state).next)

abbrev pub case_fair_says : List (ℕ × ℕ × ℕ × ℕ)
case_fair_says =
    (9, 0, 0, 0) ∷ (9, 0, 0, 0) ∷ (9, 0, 0, 0) ∷ (9, 0, 0, 0) ∷ (9, 0, 0, 0)
    ∷ (7, 0, 0, 0) ∷ (6, 0, 0, 0)
    ∷ (0, 0, 0, 0) ∷ (0, 0, 0, 0) ∷ (0, 0, 0, 0) ∷ (0, 9216, 60, 9216) ∷ (0, 0, 0, 0)
    ∷ (11, 0, 0, 0) ∷ (0, 9280, 61, 64) ∷ (0, 43690, 50, 65) ∷ (0, 65535, 51, 64) ∷ (0, 0, 0, 0) ∷ []

-- clock and finishes before the last reset and after it; the word behind them stands
unfoldable pub case_words : List (List ℕ)
case_words =
    (leaves (fair_queue 2 2) (take 16 case_calls) (opened 2 2 case_store [] case_state).next).state ∷ (leaves (fair_queue 2 2) case_calls (opened 2 2 case_store [] case_state).next).state ∷ []

abbrev pub case_words_says : List (List ℕ)
case_words_says = ((65535 ∷ replicate 5 0) ++ (65535 ∷ 9280 ∷ replicate 57 0) ++ (9 ∷ [])) ∷ (replicate 65 0 ++ (9 ∷ [])) ∷ []

-- ---- the largest finish is taken, one more is refused 10, with the queue's own refusals after it: here an order of 3
abbrev pub spent_desk : Desk
spent_desk = desk (4294901759 ∷ replicate 64 0) (replicate 24 0)

unfoldable pub case_spent : List (ℕ × ℕ × ℕ × ℕ)
case_spent =
    map told_fair (answers (fair_queue 2 2) (push 0 1 64 1 ∷ push 0 1024 64 2 ∷ pop ∷ push 1 1024 64 3 ∷ []) spent_desk)
    ++ map told_fair (answers (fair_queue 3 2) (push 0 1 65 1 ∷ push 0 1 64 1 ∷ []) spent_desk)

abbrev pub case_spent_says : List (ℕ × ℕ × ℕ × ℕ)
case_spent_says = (0, 0, 0, 0) ∷ (10, 0, 0, 0) ∷ (0, 4294967295, 1, 64) ∷ (10, 0, 0, 0) ∷ (10, 0, 0, 0) ∷ (1, 0, 0, 0) ∷ []

-- ---- a reset, over stores of order 4 with one level: the number, then the clock, the finishes of flows 0 and 63 and the word behind. What the queue refuses is passed on, before 11, and
-- everything stands
abbrev pub reset_state : List ℕ
reset_state = (7 ∷ 70 ∷ replicate 62 9) ++ (700 ∷ 7000 ∷ [])

abbrev told_reset : Reply → List ℕ
told_reset z = answer_number z.said ∷ get_or z.next.state 0 0 ∷ get_or z.next.state 1 0 ∷ get_or z.next.state 64 0 ∷ get_or z.next.state 65 0 ∷ []

unfoldable pub case_reset : List (List ℕ)
case_reset =
    -- an order of 3, no level, 15 words, a state of 64 words: 1, also where the root is damaged and something is held
    told_reset (resets 3 1 (desk reset_state (5 ∷ 50 ∷ 500 ∷ 3 ∷ replicate 12 0)))
    ∷ told_reset (resets 4 0 (desk reset_state (5 ∷ 50 ∷ 500 ∷ 3 ∷ replicate 12 0)))
    ∷ told_reset (resets 4 1 (desk reset_state (5 ∷ 50 ∷ 500 ∷ 3 ∷ replicate 11 0)))
    ∷ told_reset (resets 4 1 (desk (7 ∷ 70 ∷ replicate 62 9) (5 ∷ 50 ∷ 500 ∷ 3 ∷ replicate 12 0)))
    -- a count of 3 where there is room for one; a count of 0 over a length: 2
    ∷ told_reset (resets 4 1 (desk reset_state (5 ∷ 50 ∷ 500 ∷ 3 ∷ replicate 12 0)))
    ∷ told_reset (resets 4 1 (desk reset_state (replicate 14 0 ++ (500 ∷ 0 ∷ []))))
    -- one strip is held: 11; none: done
    ∷ told_reset (resets 4 1 (desk reset_state (replicate 12 0 ++ (5 ∷ 50 ∷ 500 ∷ 1 ∷ []))))
    ∷ told_reset (resets 4 1 (desk reset_state (replicate 16 0)))
    ∷ []

abbrev pub case_reset_says : List (List ℕ)
case_reset_says =
    (1 ∷ 7 ∷ 70 ∷ 700 ∷ 7000 ∷ []) ∷ (1 ∷ 7 ∷ 70 ∷ 700 ∷ 7000 ∷ []) ∷ (1 ∷ 7 ∷ 70 ∷ 700 ∷ 7000 ∷ []) ∷ (1 ∷ 7 ∷ 70 ∷ 0 ∷ 0 ∷ [])
    ∷ (2 ∷ 7 ∷ 70 ∷ 700 ∷ 7000 ∷ []) ∷ (2 ∷ 7 ∷ 70 ∷ 700 ∷ 7000 ∷ [])
    ∷ (11 ∷ 7 ∷ 70 ∷ 700 ∷ 7000 ∷ []) ∷ (0 ∷ 0 ∷ 0 ∷ 0 ∷ 7000 ∷ []) ∷ []

-- ---- the limits by their edges, order 4 with one level, state and store of zeros: the number of one push, and its flow's finish then
abbrev one_strip : ℕ → ℕ → ℕ → List ℕ
one_strip f w n =
    let z = pushes 4 1 f w n 50 (desk (replicate 65 0) (replicate 16 0)) in
    answer_number z.said ∷ get_or z.next.state (1 + f) 0 ∷ []

unfoldable pub case_limits : List (List ℕ)
case_limits =
    -- flows 0 to 63
    one_strip 0 1 64 ∷ one_strip 63 1 64 ∷ one_strip 64 1 64
    -- weights 1 to 1,024
    ∷ one_strip 3 0 64 ∷ one_strip 3 1024 64 ∷ one_strip 3 1025 64
    -- 1 to 9,216 bytes, in cells of 64 bytes, rounded up
    ∷ one_strip 3 2 0 ∷ one_strip 3 2 1 ∷ one_strip 3 2 64 ∷ one_strip 3 2 65 ∷ one_strip 3 2 9216 ∷ one_strip 3 2 9217 ∷ []

abbrev pub case_limits_says : List (List ℕ)
case_limits_says =
    (0 ∷ 65536 ∷ []) ∷ (0 ∷ 65536 ∷ []) ∷ (9 ∷ 0 ∷ [])
    ∷ (9 ∷ 0 ∷ []) ∷ (0 ∷ 64 ∷ []) ∷ (9 ∷ 0 ∷ [])
    ∷ (9 ∷ 0 ∷ []) ∷ (0 ∷ 32768 ∷ []) ∷ (0 ∷ 32768 ∷ []) ∷ (0 ∷ 65536 ∷ []) ∷ (0 ∷ 4718592 ∷ []) ∷ (9 ∷ 0 ∷ []) ∷ []
