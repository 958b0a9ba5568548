-- A place, a node; the choice of a place; the two halves of an operation at one node: what it does at the node alone, and what is settled with the
-- children.
use Rattle.std.specs.Prelude.{◌&&◌, ◌+◌, ◌||◌, ◌∷◌}
use Rattle.laws.specs.Prelude.{Bool, Element, List, [], blank, cond, eqb, false, get_or, key, leb, length, ltb, not, precedes, pred, set, suc, true, ℕ}
use Rattle.promise.specs.Prelude.{hit}
unfoldable pub use Rattle.strip.specs.Words.{keep, pass}

-- ---- counting: how many elements pass a test
abbrev pub Bag : Type 0
Bag = (Element → Bool) → ℕ

-- the tests: rank below r; rank r or above; leaves before e
abbrev pub under : ℕ → Element → Bool
under r e = ltb (key e) r

abbrev pub above : ℕ → Element → Bool
above r e = leb r (key e)

abbrev pub ahead : Element → Element → Bool
ahead e x = precedes x e

-- a place is empty, or has an element
pub data Place : Type 0 where
  gap : Place
  has : Element → Place

abbrev pub hit_at : (Element → Bool) → Place → ℕ
hit_at f gap = 0
hit_at f (has e) = hit (f e)

unfoldable pub inside : (Element → Bool) → List Place → ℕ
inside f [] = 0
inside f (p ∷ ps) = hit_at f p + inside f ps

abbrev pub elem_of : Place → Element
elem_of gap = blank
elem_of (has e) = e

unfoldable pub place_at : List Place → ℕ → Place
place_at ps j = get_or ps j gap

-- ---- the choices: the first place that, with those after it, passes a test; the length where none does
unfoldable pub seek : (Place → List Place → Bool) → List Place → ℕ
seek t [] = 0
seek t (p ∷ ps) = cond (t p ps) 0 (suc (seek t ps))

-- "A put fills a node's first empty place and ends"
unfoldable pub free_here : Place → List Place → Bool
free_here gap ps = true
free_here (has e) ps = false

-- "A take gives the lowest, first place on a tie"; "equal ranks within one node .. leave by lower tag" (02 [12]): occupied, and none after it leaves
-- before it, so the first that passes is the first place of those of lowest rank and then lowest tag
unfoldable pub low_here : Place → List Place → Bool
low_here gap ps = false
low_here (has e) ps = eqb (inside (ahead e) ps) 0

-- "the node's highest rank (last place on a tie)": occupied, and all after it are lower, so the first that passes is the last place of highest rank
unfoldable pub high_here : Place → List Place → Bool
high_here gap ps = false
high_here (has e) ps = eqb (inside (above (key e)) ps) 0

unfoldable pub free : List Place → ℕ
free = seek free_here

unfoldable pub low : List Place → ℕ
low = seek low_here

unfoldable pub high : List Place → ℕ
high = seek high_here

unfoldable pub low_elem : List Place → Element
low_elem ps = elem_of (place_at ps (low ps))

unfoldable pub high_elem : List Place → Element
high_elem ps = elem_of (place_at ps (high ps))

-- ---- a node: how many are held in all below it on the left and on the right, and its places
pub record Node : Type 0 where
  pub left : ℕ
  pub right : ℕ
  pub places : List Place

pub data Side : Type 0 where
  lhs : Side
  rhs : Side

abbrev pub count : Side → Node → ℕ
count lhs n = n.left
count rhs n = n.right

abbrev pub pick : {A : Type 0} → Side → A → A → A
pick lhs a b = a
pick rhs a b = b

abbrev pub side_if : Bool → Side
side_if true = rhs
side_if false = lhs

-- "goes on to the child that holds fewer, left on a tie": with all below it
unfoldable pub fewer : Node → Side
fewer n = side_if (ltb n.right n.left)

-- "the lower of the two children's lowest, left on a tie": of the children whose count is not 0, by rank alone
unfoldable pub lower_side : Node → Element → Element → Side
lower_side n a b = side_if (not (eqb n.right 0) && (eqb n.left 0 || ltb (key b) (key a)))

abbrev pub store : ℕ → Place → Node → Node
store j p n = record { left = n.left; right = n.right; places = set n.places j p }

abbrev pub raise : Side → Node → Node
raise lhs n = record { left = suc n.left; right = n.right; places = n.places }
raise rhs n = record { left = n.left; right = suc n.right; places = n.places }

abbrev pub sink : Side → Node → Node
sink lhs n = record { left = pred n.left; right = n.right; places = n.places }
sink rhs n = record { left = n.left; right = pred n.right; places = n.places }

unfoldable pub nothing_below : Node → Bool
nothing_below n = eqb (n.left + n.right) 0

-- ---- an operation at a node
pub data Op : Type 0 where
  none : Op
  put : Element → Op
  take : Op
  swap : Element → Op

-- what is left to be done between a node and its children:
-- fill place j from below; the element x in place j is on trial; put y onto a child
pub data Note : Type 0 where
  nothing : Note
  fill : ℕ → Note
  trial : ℕ → Element → Note
  onto : Side → Element → Note

pub record Begun : Type 0 where
  pub node : Node
  pub note : Note

abbrev pub begun : Node → Note → Begun
begun n c = record { node = n; note = c }

-- the first half, at the node alone; i is the place that gives
unfoldable pub put_by : Bool → Element → Node → Begun
put_by true y n = begun (store (free n.places) (has y) n) nothing
put_by false y n =
    let e = high_elem n.places in
    begun (raise (fewer n) (store (high n.places) (has (keep y e)) n)) (onto (fewer n) (pass y e))

unfoldable pub take_by : Bool → ℕ → Node → Begun
take_by true i n = begun (store i gap n) nothing
take_by false i n = begun (store i gap n) (fill i)

unfoldable pub swap_by : Bool → ℕ → Element → Node → Begun
swap_by true i x n = begun (store i (has x) n) nothing
swap_by false i x n = begun (store i (has x) n) (trial i x)

unfoldable pub begin : Op → ℕ → Node → Begun
begin none i n = begun n nothing
begin (put y) i n = put_by (ltb (free n.places) (length n.places)) y n
begin take i n = take_by (nothing_below n) i n
begin (swap x) i n = swap_by (nothing_below n) i x n

-- the second half, with the lowest elements a, b of the children: the node, and what a child has to do
pub record Finished : Type 0 where
  pub node : Node
  pub side : Side
  pub op : Op

abbrev pub finished : Node → Side → Op → Finished
finished n s o = record { node = n; side = s; op = o }

unfoldable pub fill_from : Side → ℕ → Node → Element → Element → Finished
fill_from s j n a b = finished (store j (has (pick s a b)) (sink s n)) s take

unfoldable pub trial_by : Bool → Side → ℕ → Element → Node → Element → Element → Finished
trial_by true s j x n a b = finished (store j (has (pick s a b)) n) s (swap x)
trial_by false s j x n a b = finished n s none

unfoldable pub trial_from : Side → ℕ → Element → Node → Element → Element → Finished
trial_from s j x n a b = trial_by (ltb (key (pick s a b)) (key x)) s j x n a b

unfoldable pub finish : Note → Node → Element → Element → Finished
finish nothing n a b = finished n lhs none
finish (fill j) n a b = fill_from (lower_side n a b) j n a b
finish (trial j x) n a b = trial_from (lower_side n a b) j x n a b
finish (onto s y) n a b = finished n s (put y)

-- what each child has to do
abbrev pub to_left : Finished → Op
to_left v = pick v.side v.op none

abbrev pub to_right : Finished → Op
to_right v = pick v.side none v.op
