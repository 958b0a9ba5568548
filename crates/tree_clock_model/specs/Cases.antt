-- 01's worked case 6, as a list of words after each cycle; case 10, an empty machine, and elements without a tag, by their answers; lengths on their way;
-- machines stopped in the middle of a pop and of a swap, by what remains.
use Rattle.std.specs.Prelude.{◌++◌, ◌∷◌}
use Rattle.laws.specs.Prelude.{Answer, Bool, Element, Empty, Idle, List, NoTag, Pop, Push, Replace, Request, TooSoon, [], element, get_or, map, replicate, ℕ, Ok, None, Some, Err}
use Rattle.tree_clock_model.specs.Calls.{drains}
use Rattle.tree_clock_model.specs.Lost.{carried, in_slots, remaining, struck}
use Rattle.tree_clock_model.specs.Promise.{clocked_queue, cycle_answers, Machine, machine, ran}
use Rattle.promise.specs.Prelude.{leaves, triple}
use Rattle.tree_model.specs.Prelude.{idle, work}
use Rattle.tree_model.specs.declared.Op.TheVariants.{Put, Swap, Take}
use Rattle.tree_model.specs.declared.Work.{Work}

-- order 2, levels 2: "Store A is cleared, then push 5/50, 3/30, 8/80, 1/10", by cycles
unfoldable pub clocked_a : Machine
clocked_a = ran 2 2 (Push (element 5 50 0) ∷ Push (element 3 30 0) ∷ Push (element 8 80 0) ∷ Push (element 1 10 0) ∷ []) (replicate 24 0)

-- "A clocked, drained, pop": the words after that cycle, and after one idle cycle more
unfoldable pub case_six : List (List ℕ)
case_six =
    let d = drains 2 2 2 clocked_a.state clocked_a.words in
    (leaves (clocked_queue 2 2) (Pop ∷ []) (machine d.state d.words)).words ∷ (leaves (clocked_queue 2 2) (Pop ∷ Idle ∷ []) (machine d.state d.words)).words ∷ []

-- "after that cycle slot 1 is (3,30,1) and node 1 still begins (3,30,1); one idle cycle later node 1 is empty"; "the cases' slots gain a 0" (02 [9])
abbrev pub case_six_says : List (List ℕ)
case_six_says =
    (5 ∷ 50 ∷ 0 ∷ 2 ∷ 3 ∷ 30 ∷ 0 ∷ 1 ∷ 8 ∷ 80 ∷ 0 ∷ 1 ∷ 0 ∷ 0 ∷ 0 ∷ 0 ∷ 3 ∷ 30 ∷ 0 ∷ 1 ∷ 0 ∷ 0 ∷ 0 ∷ 0 ∷ [])
    ∷ (5 ∷ 50 ∷ 0 ∷ 2 ∷ 3 ∷ 30 ∷ 0 ∷ 1 ∷ 8 ∷ 80 ∷ 0 ∷ 1 ∷ 0 ∷ 0 ∷ 0 ∷ 0 ∷ 0 ∷ 0 ∷ 0 ∷ 0 ∷ 0 ∷ 0 ∷ 0 ∷ 0 ∷ [])
    ∷ []

-- case 10: "push, idle, pop is taken; pop, push, push is taken; a pop just after a refused pop is not too soon"
unfoldable pub case_ten : List Answer
case_ten = cycle_answers 2 2 (Push (element 5 50 0) ∷ Idle ∷ Pop ∷ Push (element 1 10 0) ∷ Push (element 2 20 0) ∷ Pop ∷ Pop ∷ []) (replicate 24 0)

abbrev pub case_ten_says : List Answer
case_ten_says = (Ok None) ∷ (Ok None) ∷ Ok (Some (element 5 50 0)) ∷ (Ok None) ∷ (Ok None) ∷ Err TooSoon ∷ Ok (Some (element 1 10 0)) ∷ []

-- "an empty queue refuses replace with 6 (clocked: as idle)": a pop just after it is not too soon. And "the lowest held element is answered, even if the
-- new rank is lower": 0/7 is taken in, and a later pop gives it
unfoldable pub case_empty : List Answer
case_empty = cycle_answers 2 2 (Replace (element 5 50 0) ∷ Pop ∷ Push (element 1 10 0) ∷ Replace (element 0 7 0) ∷ Replace (element 0 7 0) ∷ Idle ∷ Pop ∷ []) (replicate 24 0)

abbrev pub case_empty_says : List Answer
case_empty_says = Err Empty ∷ Err Empty ∷ (Ok None) ∷ Err TooSoon ∷ Ok (Some (element 1 10 0)) ∷ (Ok None) ∷ Ok (Some (element 0 7 0)) ∷ []

-- "Push and replace with tag 0 are to be refused with a new number 7 .. after 3 in the clocked tree .., a clocked refusal counts as an idle cycle": a pop
-- just after it is not too soon
unfoldable pub case_untagged : List Answer
case_untagged =
    cycle_answers 2 2 (Push (element 5 0 0) ∷ Pop ∷ Push (element 5 50 0) ∷ Replace (element 1 0 0) ∷ Replace (element 1 0 0) ∷ Push (element 1 0 0) ∷ Pop ∷ []) (replicate 24 0)

abbrev pub case_untagged_says : List Answer
case_untagged_says = Err NoTag ∷ Err Empty ∷ (Ok None) ∷ Err TooSoon ∷ Err NoTag ∷ Err NoTag ∷ Ok (Some (element 5 50 0)) ∷ []

-- [9] "The strip's length travels with it": store A with lengths, replace 4/7 and pop. What stands pending at level 2, and the words, after the fourth push, the
-- replace, the pop, and one idle cycle more
abbrev pub length_cycles : List Request
length_cycles = Push (element 5 50 500) ∷ Push (element 3 30 300) ∷ Push (element 8 80 800) ∷ Push (element 1 10 100) ∷ []

abbrev stood : List Request → Work × List ℕ
stood rs = let x = ran 2 2 (length_cycles ++ rs) (replicate 24 0) in (get_or x.state.records 0 idle, x.words)

unfoldable pub case_lengths : List (Work × List ℕ)
case_lengths = stood [] ∷ stood (Idle ∷ Replace (element 4 7 70) ∷ []) ∷ stood (Idle ∷ Replace (element 4 7 70) ∷ Idle ∷ Pop ∷ []) ∷ stood (Idle ∷ Replace (element 4 7 70) ∷ Idle ∷ Pop ∷ Idle ∷ []) ∷ []

abbrev pub case_lengths_says : List (Work × List ℕ)
case_lengths_says =
    -- 1/10/100 has taken the place of 3/30/300, which is put one cycle later
    (work (Put (element 3 30 300)) 1, 5 ∷ 50 ∷ 500 ∷ 2 ∷ 1 ∷ 10 ∷ 100 ∷ 2 ∷ 8 ∷ 80 ∷ 800 ∷ 1 ∷ 0 ∷ 0 ∷ 0 ∷ 0 ∷ 0 ∷ 0 ∷ 0 ∷ 0 ∷ 0 ∷ 0 ∷ 0 ∷ 0 ∷ [])
    -- 3/30/300 is lifted, and 4/7/70 is swapped in one cycle later
    ∷ (work (Swap (element 4 7 70)) 1, 5 ∷ 50 ∷ 500 ∷ 2 ∷ 3 ∷ 30 ∷ 300 ∷ 2 ∷ 8 ∷ 80 ∷ 800 ∷ 1 ∷ 0 ∷ 0 ∷ 0 ∷ 0 ∷ 3 ∷ 30 ∷ 300 ∷ 1 ∷ 0 ∷ 0 ∷ 0 ∷ 0 ∷ [])
    -- 4/7/70 is lifted ..
    ∷ (work Take 1, 5 ∷ 50 ∷ 500 ∷ 2 ∷ 4 ∷ 7 ∷ 70 ∷ 1 ∷ 8 ∷ 80 ∷ 800 ∷ 1 ∷ 0 ∷ 0 ∷ 0 ∷ 0 ∷ 4 ∷ 7 ∷ 70 ∷ 1 ∷ 0 ∷ 0 ∷ 0 ∷ 0 ∷ [])
    -- .. and its old slot is four zeros
    ∷ (idle, 5 ∷ 50 ∷ 500 ∷ 2 ∷ 4 ∷ 7 ∷ 70 ∷ 1 ∷ 8 ∷ 80 ∷ 800 ∷ 1 ∷ 0 ∷ 0 ∷ 0 ∷ 0 ∷ 0 ∷ 0 ∷ 0 ∷ 0 ∷ 0 ∷ 0 ∷ 0 ∷ 0 ∷ [])
    ∷ []

-- .. and what those cycles are answered
unfoldable pub case_length_answers : List Answer
case_length_answers = cycle_answers 2 2 (length_cycles ++ (Idle ∷ Replace (element 4 7 70) ∷ Idle ∷ Pop ∷ [])) (replicate 24 0)

abbrev pub case_length_answers_say : List Answer
case_length_answers_say = (Ok None) ∷ (Ok None) ∷ (Ok None) ∷ (Ok None) ∷ (Ok None) ∷ Ok (Some (element 1 10 100)) ∷ (Ok None) ∷ Ok (Some (element 3 30 300)) ∷ []

-- A clocked, drained, and stopped in the middle of a request: how often 1/10, 3/30, 4/7, 5/50 and 8/80 each stand in the slots, are carried, are struck out,
-- and remain (02 [14])
unfoldable pub stopped : Request → Machine
stopped r =
    let d = drains 2 2 2 clocked_a.state clocked_a.words in
    leaves (clocked_queue 2 2) (r ∷ []) (machine d.state d.words)

abbrev pub each_of : ((Element → Bool) → ℕ) → List ℕ
each_of count = map (λ e. count (triple e)) (element 1 10 0 ∷ element 3 30 0 ∷ element 4 7 0 ∷ element 5 50 0 ∷ element 8 80 0 ∷ [])

abbrev pub sums_of : Machine → List (List ℕ)
sums_of x = each_of (in_slots 2 2 x) ∷ each_of (carried 2 2 x) ∷ each_of (struck 2 2 x) ∷ each_of (remaining 2 2 x) ∷ []

unfoldable pub case_lost : List (List ℕ)
case_lost = sums_of (stopped Pop) ++ sums_of (stopped (Replace (element 4 7 0)))

abbrev pub case_lost_says : List (List ℕ)
case_lost_says =
    -- the pop answered 1/10: 3/30 was lifted and stands twice, and the pending take strikes it out once
    (0 ∷ 2 ∷ 0 ∷ 1 ∷ 1 ∷ [])
    ∷ (0 ∷ 0 ∷ 0 ∷ 0 ∷ 0 ∷ [])
    ∷ (0 ∷ 1 ∷ 0 ∷ 0 ∷ 0 ∷ [])
    ∷ (0 ∷ 1 ∷ 0 ∷ 1 ∷ 1 ∷ [])
    -- replace 4/7 answered 1/10: the pending swap carries 4/7 as well
    ∷ (0 ∷ 2 ∷ 0 ∷ 1 ∷ 1 ∷ [])
    ∷ (0 ∷ 0 ∷ 1 ∷ 0 ∷ 0 ∷ [])
    ∷ (0 ∷ 1 ∷ 0 ∷ 0 ∷ 0 ∷ [])
    ∷ (0 ∷ 1 ∷ 1 ∷ 1 ∷ 1 ∷ [])
    ∷ []
