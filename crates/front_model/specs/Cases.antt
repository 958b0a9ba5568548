-- Cases of the front, to be computed. These are definitions.
use Rattle.std.specs.Prelude.{◌∷◌}
use Rattle.laws.specs.Prelude.{Answer, Idle, List, Pop, Push, Replace, Request, [], element, Ok, None, Some}
use Rattle.std.specs.Prelude.{None, Some}
use Rattle.front_model.specs.Front.{State, state}

-- the rules' table: two cycles of way, five places; pushes of 10, 20, .. 60, then pop, push 5, pop, replace 70, idle
abbrev pub case_front : List Request
case_front =
    Push (element 10 1 0) ∷ Push (element 20 2 0) ∷ Push (element 30 3 0) ∷ Push (element 40 4 0) ∷ Push (element 50 5 0) ∷ Push (element 60 6 0)
    ∷ Pop ∷ Push (element 5 7 0) ∷ Pop ∷ Replace (element 70 8 0) ∷ Idle ∷ []

abbrev pub case_front_answers : List Answer
case_front_answers =
    (Ok None) ∷ (Ok None) ∷ (Ok None) ∷ (Ok None) ∷ (Ok None) ∷ (Ok None)
    ∷ Ok (Some (element 10 1 0)) ∷ (Ok None) ∷ Ok (Some (element 5 7 0)) ∷ Ok (Some (element 20 2 0)) ∷ (Ok None) ∷ []

abbrev pub case_front_leaves : State
case_front_leaves = state (element 30 3 0 ∷ element 40 4 0 ∷ element 50 5 0 ∷ element 60 6 0 ∷ element 70 8 0 ∷ []) (None ∷ None ∷ []) []

-- with one place less, k = 2p: nine cycles, and then a pop
abbrev pub case_even : List Request
case_even =
    Push (element 0 1 0) ∷ Push (element 0 2 0) ∷ Push (element 0 3 0) ∷ Push (element 0 4 0) ∷ Push (element 1 5 0)
    ∷ Replace (element 1 6 0) ∷ Replace (element 0 7 0) ∷ Pop ∷ Pop ∷ []

-- rank 0 is still on the way, where the front has come down to rank 1
abbrev pub case_even_leaves : State
case_even_leaves = state (element 1 5 0 ∷ element 1 6 0 ∷ []) (Some (element 0 7 0) ∷ None ∷ []) []

-- .. one cycle of way, two places; and three, six: three storeys
abbrev pub case_even_one : List Request
case_even_one = Push (element 0 1 0) ∷ Push (element 0 2 0) ∷ Push (element 1 3 0) ∷ Replace (element 0 4 0) ∷ Pop ∷ []

abbrev pub case_even_one_leaves : State
case_even_one_leaves = state (element 1 3 0 ∷ []) (Some (element 0 4 0) ∷ []) []

abbrev pub case_even_three : List Request
case_even_three =
    Push (element 0 1 0) ∷ Push (element 0 2 0) ∷ Push (element 0 3 0) ∷ Push (element 0 4 0) ∷ Push (element 0 5 0) ∷ Push (element 0 6 0) ∷ Push (element 1 7 0)
    ∷ Replace (element 1 8 0) ∷ Replace (element 1 9 0) ∷ Replace (element 0 10 0) ∷ Pop ∷ Pop ∷ Pop ∷ []

abbrev pub case_even_three_leaves : State
case_even_three_leaves = state (element 1 7 0 ∷ element 1 8 0 ∷ element 1 9 0 ∷ []) (Some (element 0 10 0) ∷ None ∷ None ∷ []) []

-- equal ranks: one cycle of way, three places. The last pop answers the second replace's newcomer (tag 6) before the first's (tag 5)
abbrev pub case_equal : List Request
case_equal =
    Push (element 0 1 0) ∷ Push (element 0 2 0) ∷ Push (element 0 3 0) ∷ Push (element 1 4 0)
    ∷ Replace (element 0 5 0) ∷ Replace (element 0 6 0) ∷ Pop ∷ Pop ∷ []

abbrev pub case_equal_answers : List Answer
case_equal_answers =
    (Ok None) ∷ (Ok None) ∷ (Ok None) ∷ (Ok None) ∷ Ok (Some (element 0 1 0)) ∷ Ok (Some (element 0 2 0)) ∷ Ok (Some (element 0 3 0)) ∷ Ok (Some (element 0 6 0)) ∷ []
