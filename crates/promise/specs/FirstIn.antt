-- The plain first-in list, one list in leaving order: "Lower rank leaves first", and of equal ranks the one that came first. What it refuses is a table of its
-- own, so that it is said once for every queue that answers as such a list does.
use Rattle.std.specs.Prelude.{◌++◌, ◌+◌, ◌∷◌, ◌≡◌, ◌≤◌}
use Rattle.laws.specs.Prelude.{All, Answer, Bool, Element, Empty, Idle, List, Pop, Push, Replace, Request, [], cond, element_of, eqb, ltb, number_of, suc, zero, ℕ, Ok, None, Some, Err}
use Rattle.promise.specs.Queue.{step, Step}
use Rattle.promise.specs.Served.{hit}
use Rattle.promise.specs.Table.{decided, Table}

-- a newcomer stands behind all of its rank or a lower one
abbrev pub insert : Element → List Element → List Element
insert e [] = e ∷ []
insert e (x ∷ xs) = cond (ltb e.rank.0 x.rank.0) (e ∷ x ∷ xs) (x ∷ insert e xs)

-- in leaving order: no rank is below an earlier one
abbrev pub Sorted : List Element → Type 0
Sorted [] = Unit {0}
Sorted (x ∷ l) = All (λ y. x.rank.0 ≤ y.rank.0) l × Sorted l

-- how many of a list pass a test
unfoldable pub times : (Element → Bool) → List Element → ℕ
times f [] = 0
times f (x ∷ xs) = hit (f x) + times f xs

-- the elements of a rank, in their order
unfoldable pub of_rank : ℕ → List Element → List Element
of_rank r [] = []
of_rank r (x ∷ xs) = cond (eqb x.rank.0 r) (x ∷ of_rank r xs) (of_rank r xs)

-- ---- the list as a queue: what its table does not refuse is done. Nothing can be given of an empty list
abbrev pub served : Request → List Element → Step Answer (List Element)
served Idle l = step (Ok None) l
served (Push x) l = step (Ok None) (insert x l)
served Pop [] = step (Err Empty) []
served Pop (y ∷ l) = step (Ok (Some y)) l
served (Replace x) [] = step (Err Empty) []
served (Replace x) (y ∷ l) = step (Ok (Some y)) (insert x l)

unfoldable pub plain_by : (Request → List Element → Table) → Request → List Element → Step Answer (List Element)
plain_by table q l = decided (λ x. step (Err x) l) (table q l) (served q l)

-- ---- what goes in and out, in its order, by the number of an answer: 0 is no refusal
abbrev pub if_done : ℕ → Element → List Element
if_done zero e = e ∷ []
if_done (suc n) e = []

abbrev pub came : Request → Answer → List Element
came Idle a = []
came (Push x) a = if_done (number_of a) x
came Pop a = []
came (Replace x) a = if_done (number_of a) x

abbrev pub went : Request → Answer → List Element
went Idle a = []
went (Push x) a = []
went Pop a = if_done (number_of a) (element_of a)
went (Replace x) a = if_done (number_of a) (element_of a)

unfoldable pub all_came : List Request → List Answer → List Element
all_came [] said = []
all_came (q ∷ qs) [] = []
all_came (q ∷ qs) (a ∷ said) = came q a ++ all_came qs said

unfoldable pub all_went : List Request → List Answer → List Element
all_went [] said = []
all_went (q ∷ qs) [] = []
all_went (q ∷ qs) (a ∷ said) = went q a ++ all_went qs said

-- FIRST IN, FIRST OUT: of each rank, what was held and then what came in is what went out and then what is held
abbrev pub FirstOut : List Element → List Request → List Answer → List Element → Type 0
FirstOut l qs said m = (r : ℕ) → of_rank r l ++ of_rank r (all_came qs said) ≡ of_rank r (all_went qs said) ++ of_rank r m
