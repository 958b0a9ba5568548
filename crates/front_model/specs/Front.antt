-- A sorted front of k places before a queue whose lowest arrives p cycles after it is asked for (document 000, section 5). These are definitions.
use Rattle.std.specs.Prelude.{◌+◌, ◌∷◌, ◌≡◌, ◌≤◌}
use Rattle.laws.specs.Prelude.{Answer, Bool, Damaged, Element, Empty, Full, Idle, List, NoTag, Pop, Push, Replace, Request, [], cond, eqb, false, length, ltb, min, number_of, replicate, suc, true, untagged, zero, ℕ, Ok, None, Some, Err}
use Rattle.bucket_model.specs.Prelude.{Sorted}
use Rattle.std.specs.Prelude.{Option}
use Rattle.std.specs.Prelude.{None, Some}
use Rattle.bucket_clock_model.specs.Lists.{arrives, at, but_last, coming, first, heeded, last, left, many, moved, newcomer, placed, taken, takes}
use Rattle.promise.specs.Prelude.{Step, always, lower, step}

-- all that is held: in the front, in rank order; on the way, by the cycle of its arrival, the next one first; behind, in leaving order
pub record State : Type 0 where
  pub front : List Element
  pub way : List (Option Element)
  pub behind : List Element

abbrev pub state : List Element → List (Option Element) → List Element → State
state f w b = record { front = f; way = w; behind = b }

-- ---- counting

-- of those on the way, those that arrive within j cycles
unfoldable pub due : ℕ → (Element → Bool) → List (Option Element) → ℕ
due zero f w = 0
due (suc j) f [] = 0
due (suc j) f (y ∷ w) = at f y + due j f w

-- all that is held
abbrev pub held : (Element → Bool) → State → ℕ
held f s = many f s.front + coming f s.way + many f s.behind

-- ---- a cycle

-- "If places taken and elements on the way .. are more than k together, the last place leaks"
abbrev pub leak_if : Bool → State → State
leak_if true s = state (but_last s.front) s.way (placed (last s.front) s.behind)
leak_if false s = s

abbrev pub leak : ℕ → State → State
leak k s = leak_if (ltb k (length s.front + coming always s.way)) s

-- place 0 is taken out, and the first of those behind is asked for; what arrives is placed, and then the newcomer
abbrev pub worked : Bool → Option Element → State → State
worked t x s =
    let z = taken t s.behind in
    state (placed x (placed (arrives s.way z) (left t s.front))) (moved s.way z) (left t s.behind)

unfoldable pub cycled : ℕ → Request → State → State
cycled k q s = leak k (worked (takes q) (newcomer q) s)

-- ---- the call: k places, and n elements at most

-- place 0; an empty front that is asked for its first has been damaged
abbrev pub out_of : Option Element → Answer
out_of None = Err Damaged
out_of (Some x) = Ok (Some x)

abbrev pub heard : ℕ → Request → State → Answer
heard n Idle s = Ok None
heard n (Push x) s = cond (untagged x) (Err NoTag) (cond (ltb (held always s) n) (Ok None) (Err Full))
heard n Pop s = cond (eqb (held always s) 0) (Err Empty) (out_of (first s.front))
heard n (Replace x) s = cond (untagged x) (Err NoTag) (cond (eqb (held always s) 0) (Err Empty) (out_of (first s.front)))

unfoldable pub fronted : ℕ → ℕ → Request → State → Step Answer State
fronted k n q s = step (heard n q s) (cycled k (heeded (number_of (heard n q s)) q) s)

-- nothing held, and p cycles of way
abbrev pub fresh : ℕ → State
fresh p = state [] (replicate p None) []

-- ---- what every cycle keeps, c = k - 2p

-- of the held with ranks below q the first j + c, or all if they are fewer, are in the front within j cycles
abbrev pub Soon : ℕ → ℕ → State → Type 0
Soon p c s = (j q : ℕ) → j ≤ p → min (held (lower q) s) (j + c) ≤ many (lower q) s.front + due j (lower q) s.way

pub record Kept (p c : ℕ) (s : State) : Type 0 where
  pub long : length s.way ≡ p
  pub sorted : Sorted s.front
  pub behind : Sorted s.behind
  pub fits : length s.front + coming always s.way ≤ p + p + c
  pub filled : 1 ≤ length s.behind → p + p + c ≤ length s.front + coming always s.way
  pub soon : Soon p c s
