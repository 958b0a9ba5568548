-- The numbers handed in: the request of a cycle, and the mark.
use Rattle.std.specs.Prelude.{◌&&◌}
use Rattle.laws.specs.Prelude.{Bool, Idle, List, Pop, Push, Replace, Request, cond, element, eqb, get_or, leb, length, set, ℕ}

-- the request of a number: 0 idle, 1 push, 2 pop, 3 replace
unfoldable pub request_of : ℕ → ℕ → ℕ → ℕ → Request
request_of n rank tag bytes =
    cond (eqb n 1) (Push (element rank tag bytes)) (cond (eqb n 2) Pop (cond (eqb n 3) (Replace (element rank tag bytes)) Idle))

-- ---- the mark is a word: 1 on, 0 off
unfoldable pub marked : List ℕ → Bool
marked mark = leb 1 (length mark) && leb (get_or mark 0 0) 1

abbrev pub mark_in : List ℕ → Bool
mark_in mark = eqb (get_or mark 0 0) 1

abbrev pub mark_out : Bool → List ℕ → List ℕ
mark_out on mark = set mark 0 (cond on 1 0)

-- does the boundary take a call? There is a mark, and the request is one
unfoldable pub asked : List ℕ → ℕ → Bool
asked mark request = leb request 3 && marked mark
