-- Case 8 of the paper as a list of requests and the answers that it wants. These are definitions.
use Rattle.std.specs.Prelude.{◌∷◌}
use Rattle.laws.specs.Prelude.{Answer, BadRank, Empty, Full, List, Pop, Push, Request, [], element, Ok, None, Some, Err}

-- "Bucket, N = 3: push 7/1, 7/2, 4095/3; push 0/4 refused 5; 4096/4 refused 4; pops 7/1, 7/2, 4095/3, then 6"
abbrev pub case8 : List Request
case8 =
    Push (element 7 1 0) ∷ Push (element 7 2 0) ∷ Push (element 4095 3 0) ∷ Push (element 0 4 0) ∷ Push (element 4096 4 0)
    ∷ Pop ∷ Pop ∷ Pop ∷ Pop ∷ []

abbrev pub case8_answers : List Answer
case8_answers =
    (Ok None) ∷ (Ok None) ∷ (Ok None) ∷ Err Full ∷ Err BadRank
    ∷ Ok (Some (element 7 1 0)) ∷ Ok (Some (element 7 2 0)) ∷ Ok (Some (element 4095 3 0)) ∷ Err Empty ∷ []

-- .. and at three storeys, where 262,143 is the last rank (02 [7])
abbrev pub case8_three : List Request
case8_three =
    Push (element 7 1 0) ∷ Push (element 7 2 0) ∷ Push (element 262143 3 0) ∷ Push (element 0 4 0) ∷ Push (element 262144 4 0)
    ∷ Pop ∷ Pop ∷ Pop ∷ Pop ∷ []

abbrev pub case8_three_answers : List Answer
case8_three_answers =
    (Ok None) ∷ (Ok None) ∷ (Ok None) ∷ Err Full ∷ Err BadRank
    ∷ Ok (Some (element 7 1 0)) ∷ Ok (Some (element 7 2 0)) ∷ Ok (Some (element 262143 3 0)) ∷ Err Empty ∷ []
