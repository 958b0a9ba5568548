-- `tree_path::swap` meets its contract.
use Rattle.laws.specs.Prelude.{◌∙◌, arith}
use Rattle.tree_path.proofs.Once.{below-small, lift-stands, lift-cap, look_in, lift-looked, numbers, swap-fails, swap-keeps, swap-last, swap-off, swap-passes}
use Rattle.tree_path.proofs.+swap.Goals as goal

-- the levels left fall
pub overflow_add-i : goal.overflow_add-i
overflow_add-i t c = omega (arith, numbers c.requires.stands, c.requires.inside)

pub slot_at-a-requires : goal.slot_at-a-requires
slot_at-a-requires t c = omega (arith, numbers c.requires.stands, c.requires.inside)

pub write_slot-requires : goal.write_slot-requires
write_slot-requires t c = omega (arith, numbers c.requires.stands, c.requires.inside)

pub shape_of-s-then-count-le1 : goal.shape_of-s-then-count-le1
shape_of-s-then-count-le1 t c = c.write_slot.auto.s

pub returns-then-count-le1 : goal.returns-then-count-le1
returns-then-count-le1 t c = swap-last c.requires _ c.slot_at-a.ensures c.if-count-le1.true _ _ c.write_slot.ensures

pub overflow_add-below : goal.overflow_add-below
overflow_add-below t c = omega (arith, numbers c.requires.stands, c.requires.inside)

pub overflow_mul-below : goal.overflow_mul-below
overflow_mul-below t c = omega (arith, below-small c.requires.stands c.args.j c.requires.inside)

pub overflow_sub-under : goal.overflow_sub-under
overflow_sub-under t c = lift-cap c.requires _ c.slot_at-a.ensures c.if-count-le1.false

pub nonzero_div-under : goal.nonzero_div-under
nonzero_div-under t c = omega (arith, numbers c.requires.stands)

pub find_low-requires : goal.find_low-requires
find_low-requires t c = look_in (lift-stands c.requires _ c.slot_at-a.ensures c.if-count-le1.false)

pub returns-in_default : goal.returns-in_default
returns-in_default t c = swap-off c.requires _ c.slot_at-a.ensures c.if-count-le1.false c.in_default.ensures.place c.args.x

pub overflow_add-below-2 : goal.overflow_add-below-2
overflow_add-below-2 t c = omega (arith, numbers (lift-stands c.requires _ c.slot_at-a.ensures c.if-count-le1.false), lift-looked c.requires _ c.slot_at-a.ensures c.if-count-le1.false _ c.in-Some.ensures.place)

pub slot_at-requires : goal.slot_at-requires
slot_at-requires t c = omega (arith, numbers (lift-stands c.requires _ c.slot_at-a.ensures c.if-count-le1.false), lift-looked c.requires _ c.slot_at-a.ensures c.if-count-le1.false _ c.in-Some.ensures.place)

pub write_slot-requires-then-not-lower : goal.write_slot-requires-then-not-lower
write_slot-requires-then-not-lower t c = omega (arith, numbers c.requires.stands, c.requires.inside)

pub shape_of-s-then-not-lower : goal.shape_of-s-then-not-lower
shape_of-s-then-not-lower t c = c.write_slot-then-not-lower.auto.s

pub returns-then-not-lower : goal.returns-then-not-lower
returns-then-not-lower t c = swap-keeps c.requires _ c.slot_at-a.ensures c.if-count-le1.false _ c.in-Some.ensures.place _ c.slot_at.ensures c.args.x _ c.lower.ensures c.if-not-lower.true-raw _ c.write_slot-then-not-lower.ensures

pub overflow_sub-left : goal.overflow_sub-left
overflow_sub-left t c = omega (arith, c.requires.stands.some)

pub swap-requires : goal.swap-requires
swap-requires t c = (omega (arith, c.decreases, c.requires.stands.some), lift-looked c.requires _ c.slot_at-a.ensures c.if-count-le1.false _ c.in-Some.ensures.place)

pub shape_of-s-then-not-swap : goal.shape_of-s-then-not-swap
shape_of-s-then-not-swap t c = c.swap.auto.s

pub returns-then-not-swap : goal.returns-then-not-swap
returns-then-not-swap t c = swap-fails c.requires _ c.slot_at-a.ensures c.if-count-le1.false _ c.in-Some.ensures.place _ c.slot_at.ensures c.args.x _ c.lower.ensures c.if-not-lower.false-raw _ _ c.swap.ensures c.if-not-swap.true-raw

pub write_slot-requires-2 : goal.write_slot-requires-2
write_slot-requires-2 t c = omega (arith, numbers c.requires.stands, c.requires.inside, c.swap.auto.s)

pub shape_of-s : goal.shape_of-s
shape_of-s t c = c.write_slot-2.auto.s ∙ c.swap.auto.s

pub returns : goal.returns
returns t c = swap-passes c.requires _ c.slot_at-a.ensures c.if-count-le1.false _ c.in-Some.ensures.place _ c.slot_at.ensures c.args.x _ c.lower.ensures c.if-not-lower.false-raw _ _ c.swap.ensures c.if-not-swap.false-raw _ c.write_slot-2.ensures
