-- One step at one position of a packed heap: of a put on its way to a position, and of a sink.
use Rattle.std.specs.Prelude.{◌&&◌, ◌+◌, ◌-◌, ◌||◌}
use Rattle.laws.specs.Prelude.{Bool, Element, cond, false, keep, key, leb, ltb, not, pass, suc, true, untagged, zero, ℕ}

-- ---- numbers. 2^d, by doubling
unfoldable pub size : ℕ → ℕ
size zero = 1
size (suc d) = size d + size d

pub data Side : Type 0 where
  lhs : Side
  rhs : Side

abbrev pub pick : {A : Type 0} → Side → A → A → A
pick lhs a b = a
pick rhs a b = b

abbrev pub side_if : Bool → Side
side_if true = rhs
side_if false = lhs

-- a position under position i, d levels deeper, is i 2^d + r with r < 2^d. The way there, from i: "at each step right where the next bit is 1". With e + 1
-- levels to go the next bit is r's of weight 2^e, and the rest is what is left of r
unfoldable pub turn_of : ℕ → ℕ → Side
turn_of e r = side_if (leb (size e) r)

unfoldable pub rest_of : ℕ → ℕ → ℕ
rest_of e r = cond (leb (size e) r) (r - size e) r

-- ---- "Tag 0 is an empty slot"
-- "of its two children that are not empty the one of lower rank, left on a tie": a and b are the children's slots
unfoldable pub lower_side : Element → Element → Side
lower_side a b = side_if (not (untagged b) && (untagged a || ltb (key b) (key a)))

-- "there is a lower child and its rank is strictly lower than x's"
unfoldable pub lifts : Element → Element → Bool
lifts x c = not (untagged c) && ltb (key c) (key x)

-- ---- what is to be done at a position: put x towards the position d levels deeper and r further; sink x
pub data Op : Type 0 where
  none : Op
  put : ℕ → ℕ → Element → Op
  sink : Element → Op

-- what the slot becomes, and what goes on at which child
pub record Stepped : Type 0 where
  pub slot : Element
  pub side : Side
  pub op : Op

abbrev pub stepped : Element → Side → Op → Stepped
stepped s d o = record { slot = s; side = d; op = o }

unfoldable pub sink_by : Bool → Side → Element → Element → Element → Stepped
sink_by true d x a b = stepped (pick d a b) d (sink x)
sink_by false d x a b = stepped x lhs none

-- the table at a position: s its slot, a and b the slots of its children
unfoldable pub step : Op → Element → Element → Element → Stepped
step none s a b = stepped s lhs none
step (put zero r x) s a b = stepped x lhs none
step (put (suc e) r x) s a b = stepped (keep x s) (turn_of e r) (put e (rest_of e r) (pass x s))
step (sink x) s a b = sink_by (lifts x (pick (lower_side a b) a b)) (lower_side a b) x a b

-- what each child has to do
abbrev pub to_left : Stepped → Op
to_left v = pick v.side v.op none

abbrev pub to_right : Stepped → Op
to_right v = pick v.side none v.op
