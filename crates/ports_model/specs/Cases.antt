-- Two ports on three nodes: calls, the answers that they want, and the words that the first leaves. These are definitions.
use Rattle.std.specs.Prelude.{◌∷◌}
use Rattle.laws.specs.Prelude.{BadPort, BadRank, Empty, Full, List, NoTag, Pop, Push, Replace, [], count_number, count_of, element, length_of, number_of, rank_of, tag_of, ℕ, Ok, Err, None, Some}
use Rattle.bucket_model.specs.Prelude.{Said, answered, ask, counted, held}
use Rattle.ports_model.specs.Layout.{Shape}
use Rattle.ports_model.specs.Lists.{Ask, at}

abbrev pub two_ports : Shape
two_ports = record { storeys = 2; nodes = 3; ports = 2 }

-- port 0: floor 1, ceiling 2; port 1: floor 0, ceiling 3
abbrev pub two_limits : List ℕ
two_limits = 1 ∷ 2 ∷ 0 ∷ 3 ∷ []

-- port 1 gets two nodes and not the third, which is port 0's floor; port 0 gets it; its replace works in the full pool; a pop at port 1 gives room that port 0 takes up to its ceiling; an unknown port comes before rank and tag
abbrev pub sharing : List Ask
sharing =
    at 1 (ask (Push (element 7 1 60))) ∷ at 1 (ask (Push (element 7 2 61))) ∷ at 1 (ask (Push (element 5 3 62))) ∷ at 0 (ask (Push (element 9 4 63))) ∷ at 0 (ask (Push (element 9 5 64)))
    ∷ at 0 (ask (Replace (element 2 6 65))) ∷ at 1 (ask Pop) ∷ at 0 (ask (Push (element 2 7 66))) ∷ at 0 (ask (Push (element 2 8 67))) ∷ at 1 (ask (Push (element 1 9 68)))
    ∷ at 0 (ask Pop) ∷ at 0 held ∷ at 1 held ∷ at 2 held ∷ at 2 (ask (Push (element 4096 0 0))) ∷ at 0 (ask (Push (element 4096 0 0))) ∷ at 0 (ask (Push (element 0 0 0)))
    ∷ at 1 (ask Pop) ∷ at 1 (ask Pop) ∷ at 1 (ask (Replace (element 3 1 0))) ∷ []

abbrev pub sharing_says : List Said
sharing_says =
    answered (Ok None) ∷ answered (Ok None) ∷ answered (Err Full) ∷ answered (Ok None) ∷ answered (Err Full)
    ∷ answered (Ok (Some (element 9 4 63))) ∷ answered (Ok (Some (element 7 1 60))) ∷ answered (Ok None) ∷ answered (Err Full) ∷ answered (Err Full)
    ∷ answered (Ok (Some (element 2 6 65))) ∷ counted (Ok 1) ∷ counted (Ok 1) ∷ counted (Err BadPort) ∷ answered (Err BadPort) ∷ answered (Err BadRank) ∷ answered (Err NoTag)
    ∷ answered (Ok (Some (element 7 2 61))) ∷ answered (Err Empty) ∷ answered (Err Empty) ∷ []

-- floors that add up to N, and port 0's floor is its ceiling: port 0 has 1 and 1, port 1 has 2 and 3
abbrev pub tight_limits : List ℕ
tight_limits = 1 ∷ 1 ∷ 2 ∷ 3 ∷ []

-- port 1 gets its floor and no more, also while port 0 holds nothing; port 0 gets one and no more; its replace works at the ceiling
abbrev pub tight : List Ask
tight =
    at 1 (ask (Push (element 7 50 500))) ∷ at 1 (ask (Push (element 8 60 600))) ∷ at 1 (ask (Push (element 9 70 700))) ∷ at 0 (ask (Push (element 6 80 800))) ∷ at 0 (ask (Push (element 5 90 900)))
    ∷ at 0 (ask (Replace (element 4 40 400))) ∷ at 0 (ask Pop) ∷ at 1 (ask (Push (element 9 70 700))) ∷ at 0 held ∷ at 1 held ∷ at 0 (ask (Push (element 5 90 900))) ∷ []

-- the number of each answer, its rank, tag and length; of held how many
abbrev pub tight_says : List (ℕ × ℕ × ℕ × ℕ)
tight_says =
    (0, 0, 0, 0) ∷ (0, 0, 0, 0) ∷ (5, 0, 0, 0) ∷ (0, 0, 0, 0) ∷ (5, 0, 0, 0)
    ∷ (0, 6, 80, 800) ∷ (0, 4, 40, 400) ∷ (5, 0, 0, 0) ∷ (0, 0, 0, 0) ∷ (0, 2, 0, 0) ∷ (0, 0, 0, 0) ∷ []

abbrev pub in_numbers : Said → ℕ × ℕ × ℕ × ℕ
in_numbers (answered a) = (number_of a, rank_of a, tag_of a, length_of a)
in_numbers (counted c) = (count_number c, count_of c, 0, 0)

-- a push of 7/1 with length 64 at port 1, on slices of nines each one word longer than it need be: every word that is not 0, with its place
abbrev pub one_push : List Ask
one_push = at 1 (ask (Push (element 7 1 64))) ∷ []

abbrev pub one_push_bits : List (ℕ × ℕ)
one_push_bits = (65, 1) ∷ (66, 128) ∷ (130, 9) ∷ []

abbrev pub one_push_words : List (ℕ × ℕ)
one_push_words =
    (8199, 1) ∷ (12295, 1) ∷ (16384, 1) ∷ (16385, 64) ∷ (16389, 3) ∷ (16393, 2) ∷ (16395, 1) ∷ (16396, 2) ∷ (16397, 1) ∷ (16399, 3) ∷ (16400, 9) ∷ []
