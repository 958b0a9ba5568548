-- The words that a few calls leave, to read off. These are definitions.
use Rattle.std.specs.Prelude.{◌*◌, ◌++◌, ◌+◌, ◌∷◌}
use Rattle.laws.specs.Prelude.{Answer, List, Pop, Push, Replace, Request, [], element, map, replicate, ℕ, Ok, None, Some}
use Rattle.bucket_model.specs.Prelude.{Store, after, ask, queue, start}

-- what requests leave of slices of nines, each one word longer than it need be, that were cleared for n nodes
abbrev pub left_by : ℕ → List Request → Store
left_by n rs = after (queue 2 n) (map ask rs) (start (queue 2 n) (replicate 66 9) (replicate (8195 + 3 * n) 9))

-- N = 4, rank/tag/length: push 7/1/64, 7/2/1500, 7/3/40; a pop gives 7/1/64
abbrev pub pop_case : List Request
pop_case = Push (element 7 1 64) ∷ Push (element 7 2 1500) ∷ Push (element 7 3 40) ∷ Pop ∷ []

-- .. then replace 70/5/9000 gives 7/2/1500, and replace 3/6/4294967295 gives 7/3/40, though 3 is lower
abbrev pub replace_case : List Request
replace_case = pop_case ++ (Replace (element 70 5 9000) ∷ Replace (element 3 6 4294967295) ∷ [])

-- after the pop: head of 7 is link 2, its tail link 3; node 0 is free, with tag 0 and length 0, its next link 4; node 1 has tag 2 and length 1500, its next link 3; node 2 has tag 3 and length 40; the free link is 1, held 2
abbrev pub pop_case_bits : List (ℕ × ℕ)
pop_case_bits = (0, 1) ∷ (1, 128) ∷ (65, 9) ∷ []

abbrev pub pop_case_words : List (ℕ × ℕ)
pop_case_words = (7, 2) ∷ (4103, 3) ∷ (8194, 4) ∷ (8195, 2) ∷ (8196, 1500) ∷ (8197, 3) ∷ (8198, 3) ∷ (8199, 40) ∷ (8204, 1) ∷ (8205, 2) ∷ (8206, 9) ∷ []

-- after the replaces: head and tail of 70 are link 2, those of 3 link 3, each the node that the replace has freed, with the new tag and length; 7 has neither, and no bit; the free link is still 1
abbrev pub replace_case_bits : List (ℕ × ℕ)
replace_case_bits = (0, 3) ∷ (1, 8) ∷ (2, 64) ∷ (65, 9) ∷ []

abbrev pub replace_case_words : List (ℕ × ℕ)
replace_case_words = (3, 3) ∷ (70, 2) ∷ (4099, 3) ∷ (4166, 2) ∷ (8194, 4) ∷ (8195, 5) ∷ (8196, 9000) ∷ (8198, 6) ∷ (8199, 4294967295) ∷ (8204, 1) ∷ (8205, 2) ∷ (8206, 9) ∷ []

-- .. and then two pops: every answer has its strip's own length
abbrev pub length_case : List Request
length_case = replace_case ++ (Pop ∷ Pop ∷ [])

abbrev pub length_case_answers : List Answer
length_case_answers =
    (Ok None) ∷ (Ok None) ∷ (Ok None) ∷ Ok (Some (element 7 1 64)) ∷ Ok (Some (element 7 2 1500)) ∷ Ok (Some (element 7 3 40))
    ∷ Ok (Some (element 3 6 4294967295)) ∷ Ok (Some (element 70 5 9000)) ∷ []
