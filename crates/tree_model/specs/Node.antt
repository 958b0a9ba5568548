-- A node's slots, the choice of a slot, and the step of an operation at one node.
use Rattle.std.specs.Prelude.{◌&&◌, ◌+◌, ◌||◌, ◌∷◌}
use Rattle.laws.specs.Prelude.{Bool, Element, List, [], blank, cond, eqb, false, get_or, key, leb, length, ltb, not, precedes, pred, suc, true, ℕ}
unfoldable pub use Rattle.strip.specs.Words.{keep, pass}
use Rattle.tree_model.specs.declared.Slot.{Slot}
use Rattle.tree_model.specs.declared.Op.{Op}
use Rattle.tree_model.specs.declared.Op.TheVariants.{Nothing, Put, Take, Swap}
use Rattle.tree_model.specs.declared.Move.{Move}

-- "an empty slot is four zeros"
unfoldable pub vacant : Slot
vacant = record { element = blank; count = 0 }

unfoldable pub is_empty : Slot → Bool
is_empty s = eqb s.count 0

-- the slot at a place of a node
unfoldable pub slot_at : List Slot → ℕ → Slot
slot_at nd j = get_or nd j vacant

-- ---- the three choices
-- the first place whose slot, with those after it, passes the test; the length where none does
unfoldable pub seek : (Slot → List Slot → Bool) → List Slot → ℕ
seek t [] = 0
seek t (s ∷ ss) = cond (t s ss) 0 (suc (seek t ss))

unfoldable pub every : (Slot → Bool) → List Slot → Bool
every f [] = true
every f (s ∷ ss) = f s && every f ss

-- "with an empty slot, the first one"
unfoldable pub first_empty : List Slot → ℕ
first_empty = seek (λ s ss. is_empty s)

-- "the slot with the smallest count, leftmost on a tie"
unfoldable pub least_count : List Slot → ℕ
least_count = seek (λ s ss. every (λ u. leb s.count u.count) ss)

-- "the occupied slot of lowest rank"; "equal ranks within one node .. leave by lower tag, not by leftmost slot; leftmost remains for equal
-- rank and tag"
unfoldable pub lowest : List Slot → ℕ
lowest = seek (λ s ss. not (is_empty s) && every (λ u. is_empty u || not (precedes u.element s.element)) ss)

-- the element that a take gives
unfoldable pub low : List Slot → Element
low nd = (slot_at nd (lowest nd)).element

-- the sum of a node's counts
unfoldable pub sum_counts : List Slot → ℕ
sum_counts [] = 0
sum_counts (s ∷ ss) = s.count + sum_counts ss

-- ---- the steps
abbrev pub move : ℕ → Element → ℕ → Op → Move
move j e c o = record { place = j; slot = record { element = e; count = c }; rest = o }

-- Put x: is there an empty slot? Then "the first one becomes x with count 1, and that ends it. Otherwise the slot with the smallest count
-- has its count raised by one; .. what is left over is put into the node below"
unfoldable pub put_by : Bool → Element → List Slot → Move
put_by true x nd = move (first_empty nd) x 1 Nothing
put_by false x nd =
    let s = slot_at nd (least_count nd) in
    move (least_count nd) (keep x s.element) (suc s.count) (Put (pass x s.element))

unfoldable pub put_move : Element → List Slot → Move
put_move x nd = put_by (ltb (first_empty nd) (length nd)) x nd

-- Take: "the occupied slot of lowest rank gives its element; its count falls by one. At count 0 the slot is cleared. Otherwise it
-- receives what a take gives at the node below". `below j` is the element that a take gives at the node below place j
unfoldable pub take_by : Bool → List Slot → (ℕ → Element) → Move
take_by true nd below = move (lowest nd) blank 0 Nothing
take_by false nd below = move (lowest nd) (below (lowest nd)) (pred (slot_at nd (lowest nd)).count) Take

unfoldable pub take_move : List Slot → (ℕ → Element) → Move
take_move nd below = take_by (leb (slot_at nd (lowest nd)).count 1) nd below

-- Swap x: "the slot that a take would choose gives its element, count unchanged. At count 1, or if the lowest rank in the node below is
-- not strictly lower than x's, x stays in the slot. Otherwise the slot receives that lowest element, and the node below is swapped with x"
unfoldable pub swap_by : Bool → Element → List Slot → (ℕ → Element) → Move
swap_by true x nd below = move (lowest nd) x (slot_at nd (lowest nd)).count Nothing
swap_by false x nd below = move (lowest nd) (below (lowest nd)) (slot_at nd (lowest nd)).count (Swap x)

unfoldable pub swap_move : Element → List Slot → (ℕ → Element) → Move
swap_move x nd below = swap_by (leb (slot_at nd (lowest nd)).count 1 || not (ltb (key (below (lowest nd))) (key x))) x nd below

-- the step of any operation; nothing is written where there is nothing to do (no slot has that place)
unfoldable pub op_move : Op → List Slot → (ℕ → Element) → Move
op_move Nothing nd below = move (length nd) blank 0 Nothing
op_move (Put x) nd below = put_move x nd
op_move Take nd below = take_move nd below
op_move (Swap x) nd below = swap_move x nd below

unfoldable pub is_nothing : Op → Bool
is_nothing Nothing = true
is_nothing (Put x) = false
is_nothing Take = false
is_nothing (Swap x) = false
