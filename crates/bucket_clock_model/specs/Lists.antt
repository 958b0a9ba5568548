-- Lists of elements: what is taken and what is placed, how many pass a test; and a way, on which what joins it arrives later. These are definitions.
use Rattle.std.specs.Prelude.{◌++◌, ◌+◌, ◌∷◌}
use Rattle.laws.specs.Prelude.{Bool, Element, Idle, List, Pop, Push, Replace, Request, [], false, suc, true, zero, ℕ}
use Rattle.bucket_model.specs.Prelude.{insert}
use Rattle.promise.specs.Prelude.{hit}
use Rattle.std.specs.Prelude.{Option}
use Rattle.std.specs.Prelude.{None, Some}

-- ---- lists

abbrev pub first : List Element → Option Element
first [] = None
first (x ∷ l) = Some x

abbrev pub rest : List Element → List Element
rest [] = []
rest (x ∷ l) = l

abbrev pub last : List Element → Option Element
last [] = None
last (x ∷ []) = Some x
last (x ∷ y ∷ l) = last (y ∷ l)

abbrev pub but_last : List Element → List Element
but_last [] = []
but_last (x ∷ []) = []
but_last (x ∷ y ∷ l) = x ∷ but_last (y ∷ l)

-- behind all of its rank or a lower one
abbrev pub placed : Option Element → List Element → List Element
placed None l = l
placed (Some x) l = insert x l

-- the first of a list, where it is taken, and what is left
abbrev pub taken : Bool → List Element → Option Element
taken true l = first l
taken false l = None

abbrev pub left : Bool → List Element → List Element
left true l = rest l
left false l = l

-- ---- the way: what is asked for joins it at its end, and what stands first arrives

abbrev pub arrives : List (Option Element) → Option Element → Option Element
arrives [] z = z
arrives (y ∷ w) z = y

abbrev pub moved : List (Option Element) → Option Element → List (Option Element)
moved [] z = []
moved (y ∷ w) z = w ++ z ∷ []

-- ---- counting

abbrev pub at : (Element → Bool) → Option Element → ℕ
at f None = 0
at f (Some x) = hit (f x)

unfoldable pub many : (Element → Bool) → List Element → ℕ
many f [] = 0
many f (x ∷ l) = hit (f x) + many f l

-- of those on the way
unfoldable pub coming : (Element → Bool) → List (Option Element) → ℕ
coming f [] = 0
coming f (y ∷ w) = at f y + coming f w

-- ---- requests

abbrev pub takes : Request → Bool
takes Idle = false
takes (Push x) = false
takes Pop = true
takes (Replace x) = true

abbrev pub newcomer : Request → Option Element
newcomer Idle = None
newcomer (Push x) = Some x
newcomer Pop = None
newcomer (Replace x) = Some x

-- the list after a request that is not refused: the first taken out, and then the newcomer put in
abbrev pub done : Request → List Element → List Element
done q l = placed (newcomer q) (left (takes q) l)

-- a refused request's cycle is an idle one
abbrev pub heeded : ℕ → Request → Request
heeded zero q = q
heeded (suc r) q = Idle
