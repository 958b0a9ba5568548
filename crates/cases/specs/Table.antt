-- 01's worked cases that are marked (P), those that 02 adds, case 9 and the worked traces, as one table.
use Rattle.std.specs.Prelude.{◌++◌, ◌∷◌, ◌≡◌}
use Rattle.laws.specs.Prelude.{Answer, List, Pop, Push, Replace, Request, [], count_number, count_of, element, get_or, length, length_of, map, number_of, rank_of, replicate, tag_of, ℕ, Result, Refusal}
use Rattle.bucket_cases.specs.Case8.{case8, case8_three}
use Rattle.bucket_cases.specs.CaseTag.{spoilt, spoilt_case, tag_case}
use Rattle.bucket_model.specs.Prelude.{Store, answers_from, bucket_answers, filled, queue}
use Rattle.bucket_cases.specs.CaseWords.{left_by, length_case, pop_case, pop_case_bits, pop_case_words, replace_case, replace_case_bits, replace_case_words}
use Rattle.tree_clock_model.specs.Prelude.{case_empty, case_empty_says, case_lost, case_lost_says, case_six, case_six_says, case_untagged, case_untagged_says}
use Rattle.tree_clock_model.specs.Cases as clock
use Rattle.cluster_clock_model.specs.Prelude.{case_clock, case_clock_says, case_flight, case_flight_answers, case_flight_answers_say, case_flight_says, case_tie, case_tie_answers, case_tie_answers_say, case_tie_says}
use Rattle.cluster_model.specs.Edge as cluster
use Rattle.cluster_model.specs.Prelude.{case_cluster, case_cluster_answers, case_cluster_answers_say, case_cluster_says}
use Rattle.packed_model.specs.Cases.{case_deep, case_deep_says, case_even, case_even_says, case_packed, case_packed_answers, case_packed_answers_say, case_packed_says, case_spoilt, case_spoilt_says}
use Rattle.fair_model.specs.Cases.{case_fair, case_fair_says, case_limits, case_limits_says, case_reset, case_reset_says, case_served, case_served_says, case_spent, case_spent_says, case_words, case_words_says}
use Rattle.promise.specs.Prelude.{answers}
use Rattle.trace_model.specs.Example.{cut, cut_lengths, cut_lengths_say, cut_says, deep, deep_says, emptied, emptied_says, example, example_says, idle_ranked, idle_ranked_says, lengthless, lengthless_says, lengths, lengths_say, pop_tagged, pop_tagged_says, untagged_ones, untagged_says, wide, wide_says}
use Rattle.trace_model.specs.Program.{trace_text}
use Rattle.tree_model.specs.Prelude.{Edge, after, case_length_answers, case_length_answers_say, case_lengths, case_lengths_says, held_count, start, tree_queue}
use Rattle.tree_model.specs.declared.Work.{Work}

-- what is said, in 01's numbers: the number, and the rank, tag and length; of held the number and how many
abbrev pub told : Answer → ℕ × ℕ × ℕ × ℕ
told a = (number_of a, rank_of a, tag_of a, length_of a)

abbrev pub told_held : Result ℕ Refusal → ℕ × ℕ
told_held c = (count_number c, count_of c)

-- a row: what is asked of a cleared queue, what it says, the words it leaves, and what held says then. A slice to begin with is garbage, and longer
-- than needed. `bucket_on` asks it of a store that was not cleared, `bucket_words` of two storeys. `edge` and `cluster_edge` have a shape's capacity and the number of a clear on any words that hold it. `words_are`,
-- `pending_are`, `answers_are` and `sums` hold a model crate's own case to what it should be: words, the record of level 2 with the words, answers, and counts. `plays` has the bytes of
-- a trace, and those that the program writes for it
pub data Row : Type 0 where
  tree : (order levels : ℕ) (requests : List Request) (said : List (ℕ × ℕ × ℕ × ℕ)) (left : List ℕ) (held : ℕ × ℕ) → Row
  held : (order levels : ℕ) (words : List ℕ) (said : ℕ × ℕ) → Row
  edge : (order levels slots said : ℕ) → Row
  cluster_edge : (places levels capacity words said : ℕ) → Row
  words_are : (left says : List (List ℕ)) → Row
  pending_are : (left says : List (Work × List ℕ)) → Row
  answers_are : (answers says : List (ℕ × ℕ × ℕ × ℕ)) → Row
  sums : (counts says : List (List ℕ)) → Row
  bucket : (storeys nodes : ℕ) (requests : List Request) (said : List (ℕ × ℕ × ℕ × ℕ)) → Row
  bucket_on : (storeys nodes : ℕ) (store : Store) (requests : List Request) (said : List (ℕ × ℕ × ℕ × ℕ)) → Row
  bucket_words : (nodes : ℕ) (requests : List Request) (bits words : List (ℕ × ℕ)) → Row
  plays : (trace text : List ℕ) → Row

abbrev pub garbage : ℕ → List ℕ
garbage n = replicate n 9

-- what a row claims of the definitions
abbrev pub Right : Row → Type 0
Right (tree m l rs said left h) =
    (map told (answers (tree_queue m l) rs (start m l (garbage (length left)))) ≡ said) × (after m l rs (garbage (length left)) ≡ left) × (told_held (held_count m l left) ≡ h)
Right (held m l ws said) = told_held (held_count m l ws) ≡ said
Right (edge m l n said) = Edge m l n said
Right (cluster_edge K l n words said) = cluster.Edge K l n words said
Right (words_are left says) = left ≡ says
Right (pending_are left says) = left ≡ says
Right (answers_are answers says) = answers ≡ says
Right (sums counts says) = counts ≡ says
Right (bucket d n rs said) = map told (bucket_answers (queue d n) rs) ≡ said
Right (bucket_on d n s rs said) = map told (answers_from (queue d n) rs s) ≡ said
Right (bucket_words n rs bits words) = (filled 0 (left_by n rs).bits ≡ bits) × (filled 0 (left_by n rs).words ≡ words)
Right (plays t s) = trace_text t ≡ s

-- "Tree cases have order 2, levels 2, capacity 6. Store A is cleared, then push 5/50, 3/30, 8/80, 1/10"
abbrev pub A : List Request
A = Push (element 5 50 0) ∷ Push (element 3 30 0) ∷ Push (element 8 80 0) ∷ Push (element 1 10 0) ∷ []

-- n requests that are done
abbrev pub done : ℕ → List (ℕ × ℕ × ℕ × ℕ)
done n = replicate n (0, 0, 0, 0)

abbrev pub row : List Request → List (ℕ × ℕ × ℕ × ℕ) → List ℕ → ℕ → Row
row rs said left h = tree 2 2 rs said (left ++ garbage 2) (0, h)

unfoldable pub table : List Row
table =
    -- 1. A is: root (5,50,2) (1,10,2); node 0 (8,80,1) empty; node 1 (3,30,1) empty
    row A (done 4) (5 ∷ 50 ∷ 0 ∷ 2 ∷ 1 ∷ 10 ∷ 0 ∷ 2 ∷ 8 ∷ 80 ∷ 0 ∷ 1 ∷ 0 ∷ 0 ∷ 0 ∷ 0 ∷ 3 ∷ 30 ∷ 0 ∷ 1 ∷ 0 ∷ 0 ∷ 0 ∷ 0 ∷ []) 4
    -- 2. A popped: 1, 3, 5, 8, then refusal 6
    ∷ row (A ++ replicate 5 Pop) (done 4 ++ ((0, 1, 10, 0) ∷ (0, 3, 30, 0) ∷ (0, 5, 50, 0) ∷ (0, 8, 80, 0) ∷ (6, 0, 0, 0) ∷ [])) (replicate 24 0) 0
    -- 3. A, replace 0/7: answers 1/10, slot 1 becomes (0,7,2)
    ∷ row (A ++ (Replace (element 0 7 0) ∷ [])) (done 4 ++ ((0, 1, 10, 0) ∷ [])) (5 ∷ 50 ∷ 0 ∷ 2 ∷ 0 ∷ 7 ∷ 0 ∷ 2 ∷ 8 ∷ 80 ∷ 0 ∷ 1 ∷ 0 ∷ 0 ∷ 0 ∷ 0 ∷ 3 ∷ 30 ∷ 0 ∷ 1 ∷ 0 ∷ 0 ∷ 0 ∷ 0 ∷ []) 4
    -- 4. A, replace 1/7: answers 1/10, root slot 1 is (1,7,2)
    ∷ row (A ++ (Replace (element 1 7 0) ∷ [])) (done 4 ++ ((0, 1, 10, 0) ∷ [])) (5 ∷ 50 ∷ 0 ∷ 2 ∷ 1 ∷ 7 ∷ 0 ∷ 2 ∷ 8 ∷ 80 ∷ 0 ∷ 1 ∷ 0 ∷ 0 ∷ 0 ∷ 0 ∷ 3 ∷ 30 ∷ 0 ∷ 1 ∷ 0 ∷ 0 ∷ 0 ∷ 0 ∷ []) 4
    -- 5. A, replace 4/7: answers 1/10, slot 1 (3,30,2), node 1 begins (4,7,1)
    ∷ row (A ++ (Replace (element 4 7 0) ∷ [])) (done 4 ++ ((0, 1, 10, 0) ∷ [])) (5 ∷ 50 ∷ 0 ∷ 2 ∷ 3 ∷ 30 ∷ 0 ∷ 2 ∷ 8 ∷ 80 ∷ 0 ∷ 1 ∷ 0 ∷ 0 ∷ 0 ∷ 0 ∷ 4 ∷ 7 ∷ 0 ∷ 1 ∷ 0 ∷ 0 ∷ 0 ∷ 0 ∷ []) 4
    -- 6. A clocked, drained, pop: after that cycle slot 1 is (3,30,1) and node 1 still begins (3,30,1); one idle cycle later node 1 is empty
    ∷ words_are case_six case_six_says
    -- 7. cleared, six pushes accepted, the seventh refused 5
    ∷ row (replicate 7 (Push (element 1 1 0))) (done 6 ++ ((5, 0, 0, 0) ∷ [])) (1 ∷ 1 ∷ 0 ∷ 3 ∷ 1 ∷ 1 ∷ 0 ∷ 3 ∷ 1 ∷ 1 ∷ 0 ∷ 1 ∷ 1 ∷ 1 ∷ 0 ∷ 1 ∷ 1 ∷ 1 ∷ 0 ∷ 1 ∷ 1 ∷ 1 ∷ 0 ∷ 1 ∷ []) 6
    -- "an empty queue refuses replace with 6", and the store stands
    ∷ row (Replace (element 5 50 0) ∷ []) ((6, 0, 0, 0) ∷ []) (replicate 24 0) 0
    -- .. by cycles: as idle, so that a pop just after it is not too soon; and a lower newcomer is taken in
    ∷ answers_are (map told case_empty) (map told case_empty_says)
    -- [14] A clocked, drained, and stopped in the middle of a pop and of a swap: how often each stands in the slots, is carried, is struck out, and remains
    ∷ sums case_lost case_lost_says
    -- [12] a node with 5/9 and 5/3 gives 5/3, not the leftmost
    ∷ row (Push (element 5 9 0) ∷ Push (element 5 3 0) ∷ Pop ∷ []) (done 2 ++ ((0, 5, 3, 0) ∷ [])) (5 ∷ 9 ∷ 0 ∷ 1 ∷ replicate 20 0) 1
    -- 8. bucket, N = 3: push 7/1, 7/2, 4095/3; push 0/4 refused 5; 4096/4 refused 4; pops 7/1, 7/2, 4095/3, then 6
    ∷ bucket 2 3 case8 ((0, 0, 0, 0) ∷ (0, 0, 0, 0) ∷ (0, 0, 0, 0) ∷ (5, 0, 0, 0) ∷ (4, 0, 0, 0) ∷ (0, 7, 1, 0) ∷ (0, 7, 2, 0) ∷ (0, 4095, 3, 0) ∷ (6, 0, 0, 0) ∷ [])
    -- .. at three storeys the last rank is 262,143
    ∷ bucket 3 3 case8_three ((0, 0, 0, 0) ∷ (0, 0, 0, 0) ∷ (0, 0, 0, 0) ∷ (5, 0, 0, 0) ∷ (4, 0, 0, 0) ∷ (0, 7, 1, 0) ∷ (0, 7, 2, 0) ∷ (0, 262143, 3, 0) ∷ (6, 0, 0, 0) ∷ [])
    -- the bucket's words that are not 0, with their places, after push 7/1/64, 7/2/1500, 7/3/40 and a pop; and after replace 70/5/9000 and replace 3/6/4294967295
    ∷ bucket_words 4 pop_case pop_case_bits pop_case_words
    ∷ bucket_words 4 replace_case replace_case_bits replace_case_words
    -- "Push and replace with tag 0 are to be refused with a new number 7": before 6, and the store stands
    ∷ row (Push (element 5 0 0) ∷ Replace (element 5 0 0) ∷ []) ((7, 0, 0, 0) ∷ (7, 0, 0, 0) ∷ []) (replicate 24 0) 0
    ∷ row (A ++ (Push (element 5 0 0) ∷ Replace (element 0 0 0) ∷ [])) (done 4 ++ ((7, 0, 0, 0) ∷ (7, 0, 0, 0) ∷ [])) (5 ∷ 50 ∷ 0 ∷ 2 ∷ 1 ∷ 10 ∷ 0 ∷ 2 ∷ 8 ∷ 80 ∷ 0 ∷ 1 ∷ 0 ∷ 0 ∷ 0 ∷ 0 ∷ 3 ∷ 30 ∷ 0 ∷ 1 ∷ 0 ∷ 0 ∷ 0 ∷ 0 ∷ []) 4
    -- .. by cycles, after 3: as idle, so that a pop just after it is not too soon
    ∷ answers_are (map told case_untagged) (map told case_untagged_says)
    -- .. in the bucket queue, N = 3: push 4096/0 refused 4, push 7/0 and replace 7/0 refused 7, empty or full; rank 0 is taken
    ∷ bucket 2 3 tag_case
    ((4, 0, 0, 0) ∷ (7, 0, 0, 0) ∷ (7, 0, 0, 0) ∷ (0, 0, 0, 0) ∷ (0, 0, 0, 0) ∷ (0, 0, 0, 0) ∷ (7, 0, 0, 0) ∷ (5, 0, 0, 0) ∷ (7, 0, 0, 0) ∷ (0, 0, 1, 0) ∷ (0, 7, 2, 0) ∷ (0, 7, 3, 0) ∷ (6, 0, 0, 0) ∷ [])
    -- .. and on a damaged store: push 7/1 refused 2, push 7/0 refused 7, push 4096/0 refused 4, replace 7/0 refused 7, replace 7/1 and pop refused 2
    ∷ bucket_on 2 3 spoilt spoilt_case ((2, 0, 0, 0) ∷ (7, 0, 0, 0) ∷ (4, 0, 0, 0) ∷ (7, 0, 0, 0) ∷ (2, 0, 0, 0) ∷ (2, 0, 0, 0) ∷ [])
    -- [9] "The strip's length travels with it": through push, replace and pop of the tree, the words and the answers ..
    ∷ words_are case_lengths case_lengths_says
    ∷ answers_are (map told case_length_answers) (map told case_length_answers_say)
    -- .. by cycles, pending records too ..
    ∷ pending_are clock.case_lengths clock.case_lengths_says
    ∷ answers_are (map told clock.case_length_answers) (map told clock.case_length_answers_say)
    -- .. and of the bucket queue, N = 4; its words are those of the rows above
    ∷ bucket 2 4 length_case
    ((0, 0, 0, 0) ∷ (0, 0, 0, 0) ∷ (0, 0, 0, 0) ∷ (0, 7, 1, 64) ∷ (0, 7, 2, 1500) ∷ (0, 7, 3, 40) ∷ (0, 3, 6, 4294967295) ∷ (0, 70, 5, 9000) ∷ [])
    -- [2] the cluster heap, K = 2, levels 2: its words after pushes, a replace and two pops; what calls are answered: 5, 7, and the lowest ..
    ∷ words_are case_cluster case_cluster_says
    ∷ answers_are (map told (get_or case_cluster_answers 0 [])) (map told (get_or case_cluster_answers_say 0 []))
    -- .. of equal ranks in one node the lower tag first, and 6 on the empty heap
    ∷ answers_are (map told (get_or case_cluster_answers 1 [])) (map told (get_or case_cluster_answers_say 1 []))
    -- [10] fair ranks: the bound of two flows reached; every refusal, what is served, and the state's words; the largest finish, and 10 before the queue's 1; a reset; the limits
    ∷ sums case_served case_served_says
    ∷ answers_are case_fair case_fair_says
    ∷ words_are case_words case_words_says
    ∷ answers_are case_spent case_spent_says
    ∷ words_are case_reset case_reset_says
    ∷ sums case_limits case_limits_says
    -- [5] the cluster heap by cycles, K = 2, levels 2: the record of level 2 as six numbers, and the words: four pushes, then a pop; a pop and a push; a replace;
    -- and one cycle later
    ∷ words_are case_clock case_clock_says
    -- .. at levels 3 with two operations in flight, both records and the words; one answer a cycle
    ∷ words_are case_flight case_flight_says
    ∷ answers_are (map told case_flight_answers) (map told case_flight_answers_say)
    -- .. equal ranks: the place that gives is chosen before the gap is filled
    ∷ words_are case_tie case_tie_says
    ∷ answers_are (map told case_tie_answers) (map told case_tie_answers_say)
    -- [15] the packed heap: the rules' own store of two heaps with two levels, and emptied at heap 0; what is answered: 5 on the full heap, 12 at heap 2, 7, and the lowest at heap 0, then 6 ..
    ∷ words_are case_packed case_packed_says
    ∷ words_are case_packed_answers case_packed_answers_say
    -- .. equal ranks; pops that sink on three levels; and each damage test, met alone
    ∷ words_are case_even case_even_says
    ∷ words_are case_deep case_deep_says
    ∷ words_are (case_spoilt ∷ []) (case_spoilt_says ∷ [])
    -- held refused: 1, an order of 3; 2, a slot with count 0 and a rank, or a length
    ∷ held 3 1 (replicate 12 0) (1, 0)
    ∷ held 2 1 (9 ∷ 0 ∷ 0 ∷ 0 ∷ 0 ∷ 0 ∷ 0 ∷ 0 ∷ []) (2, 0)
    ∷ held 2 1 (0 ∷ 0 ∷ 9 ∷ 0 ∷ 0 ∷ 0 ∷ 0 ∷ 0 ∷ []) (2, 0)
    -- 9. 01's largest shape of each order and today's are taken, one level more is refused 1: on any slice that is long enough, so that the capacity is the cause
    ∷ edge 4 6 5460 0
    ∷ edge 4 8 87380 0
    ∷ edge 4 9 349524 1
    ∷ edge 2 11 4094 0
    ∷ edge 2 15 65534 0
    ∷ edge 2 16 131070 1
    ∷ edge 8 4 4680 0
    ∷ edge 8 5 37448 0
    ∷ edge 8 6 299592 1
    -- .. and so is order 3, and levels 0
    ∷ edge 3 2 12 1
    ∷ edge 2 0 0 1
    -- [2] the cluster heap: K = 1 and 17 are refused, 2 and 16 taken; the most levels of K = 2, 5 and 16 are taken, one more is refused. 5,115 is the largest capacity there is
    ∷ cluster_edge 1 1 1 6 1
    ∷ cluster_edge 2 1 2 10 0
    ∷ cluster_edge 16 1 16 66 0
    ∷ cluster_edge 17 1 17 70 1
    ∷ cluster_edge 2 11 4094 20470 0
    ∷ cluster_edge 2 12 8190 40950 1
    ∷ cluster_edge 5 10 5115 22506 0
    ∷ cluster_edge 5 11 10235 45034 1
    ∷ cluster_edge 16 8 4080 16830 0
    ∷ cluster_edge 16 9 8176 33726 1
    -- 01's worked trace; replaces, and tag 0
    ∷ plays example example_says
    ∷ plays emptied emptied_says
    ∷ plays untagged_ones untagged_says
    -- .. in version 2, also with length 0
    ∷ plays lengths lengths_say
    ∷ plays lengthless lengthless_says
    -- .. byte by byte: order 4, levels 1, full and code 4; version 2, order 4, levels 3; a record that is cut, of either version; an idle record with a rank, a pop
    -- with a tag
    ∷ plays wide wide_says
    ∷ plays deep deep_says
    ∷ plays cut cut_says
    ∷ plays cut_lengths cut_lengths_say
    ∷ plays idle_ranked idle_ranked_says
    ∷ plays pop_tagged pop_tagged_says
    ∷ []
