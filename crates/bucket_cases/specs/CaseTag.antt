-- Elements without a tag in the bucket queue, as lists of requests and the answers that they want. These are definitions.
use Rattle.std.specs.Prelude.{◌∷◌}
use Rattle.laws.specs.Prelude.{Answer, BadRank, Damaged, Empty, Full, List, NoTag, Pop, Push, Replace, Request, [], element, replicate, Ok, None, Some, Err}
use Rattle.bucket_model.specs.Prelude.{Store, store}

-- N = 3, cleared: 4 comes before 7, and 7 before 6 and 5; rank 0 is a rank like any other
abbrev pub tag_case : List Request
tag_case =
    Push (element 4096 0 0) ∷ Push (element 7 0 0) ∷ Replace (element 7 0 0) ∷ Push (element 0 1 0) ∷ Push (element 7 2 0) ∷ Push (element 7 3 0) ∷ Push (element 7 0 0) ∷ Push (element 7 4 0)
    ∷ Replace (element 0 0 0) ∷ Pop ∷ Pop ∷ Pop ∷ Pop ∷ []

abbrev pub tag_case_answers : List Answer
tag_case_answers =
    Err BadRank ∷ Err NoTag ∷ Err NoTag ∷ (Ok None) ∷ (Ok None) ∷ (Ok None) ∷ Err NoTag ∷ Err Full
    ∷ Err NoTag ∷ Ok (Some (element 0 1 0)) ∷ Ok (Some (element 7 2 0)) ∷ Ok (Some (element 7 3 0)) ∷ Err Empty ∷ []

-- slices of nines, which are damaged
abbrev pub spoilt : Store
spoilt = store (replicate 65 9) (replicate 8203 9)

-- .. N = 3: 4 and 7 come before 2
abbrev pub spoilt_case : List Request
spoilt_case = Push (element 7 1 0) ∷ Push (element 7 0 0) ∷ Push (element 4096 0 0) ∷ Replace (element 7 0 0) ∷ Replace (element 7 1 0) ∷ Pop ∷ []

abbrev pub spoilt_case_answers : List Answer
spoilt_case_answers = Err Damaged ∷ Err NoTag ∷ Err BadRank ∷ Err NoTag ∷ Err Damaged ∷ Err Damaged ∷ []
