-- The plain first-in list that kind 1 is, and one line in either kind: its own cause of "full". These are definitions.
use Rattle.std.specs.Prelude.{◌∷◌, ◌≡◌, ◌≤◌, ◌⊎◌}
use Rattle.laws.specs.Prelude.{Answer, Bool, Element, Empty, Full, Idle, List, NoTag, Pop, Push, Replace, Request, [], cond, eqb, false, length, ltb, number_of, rank_of, true, untagged, ℕ}
use Rattle.promise.specs.FirstIn.{plain_by}
use Rattle.promise.specs.Prelude.{Step, Table, Untagged, bars, ends, stops}
use Rattle.lines_model.specs.Layout.{behind, Rows}
use Rattle.lines_model.specs.Rules.{ask_table, goal}

-- kind 1, or one line
abbrev pub Single : Rows → Type 0
Single k = (k.kind ≡ 1) ⊎ (k.lines ≡ 1)

-- the line of x's rank; of one line in kind 2 that line
abbrev pub home : Rows → Element → ℕ
home k x = goal k 0 x

-- the elements whose rank belongs to line l
unfoldable pub of_line : Rows → ℕ → List Element → List Element
of_line k l [] = []
of_line k l (x ∷ xs) = cond (eqb (home k x) l) (x ∷ of_line k l xs) (of_line k l xs)

abbrev pub is_none : List Element → Bool
is_none [] = true
is_none (x ∷ l) = false

-- "full" where as many as W of that line's ranks are held
abbrev pub mates : Rows → Element → List Element → ℕ
mates k x l = length (of_line k (home k x) l)

-- .. "(after the pop, for a replace)"
abbrev pub plain_table : Rows → Request → List Element → Table
plain_table k Idle l = ends
plain_table k (Push x) l = ask_table k (Push x) (bars Full (ltb (mates k x l) k.places) (k.places ≤ mates k x l) ends)
plain_table k Pop l = stops Empty (is_none l) (l ≡ []) ends
plain_table k (Replace x) l =
    ask_table k (Replace x) (stops Empty (is_none l) (l ≡ []) (bars Full (ltb (mates k x (behind l)) k.places) (k.places ≤ mates k x (behind l)) ends))

abbrev pub plain : Rows → Request → List Element → Step Answer (List Element)
plain k = plain_by (plain_table k)

-- ---- kind 2: "full" at QW, here c; ranks are answered in their order, tags among equal ranks as they may
abbrev pub bound_table : ℕ → Request → List Element → Table
bound_table c Idle l = ends
bound_table c (Push x) l = stops NoTag (untagged x) (Untagged (Push x)) (bars Full (ltb (length l) c) (c ≤ length l) ends)
bound_table c Pop l = stops Empty (is_none l) (l ≡ []) ends
bound_table c (Replace x) l = stops NoTag (untagged x) (Untagged (Replace x)) (stops Empty (is_none l) (l ≡ []) ends)

abbrev pub bounded : ℕ → Request → List Element → Step Answer (List Element)
bounded c = plain_by (bound_table c)

-- what is compared: the number, and the rank
abbrev pub number_rank : Answer → ℕ × ℕ
number_rank a = (number_of a, rank_of a)
