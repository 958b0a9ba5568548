-- `tree_path::take` meets its contract.
use Rattle.laws.specs.Prelude.{◌∙◌, arith}
use Rattle.tree_path.proofs.Once.{below-small, lift-stands, lift-cap, look_in, lift-looked, numbers, take-fails, take_last, take-off, take-passes}
use Rattle.tree_path.proofs.+take.Goals as goal

-- the levels left fall
pub overflow_add-i : goal.overflow_add-i
overflow_add-i t c = omega (arith, numbers c.requires.stands, c.requires.inside)

pub slot_at-a-requires : goal.slot_at-a-requires
slot_at-a-requires t c = omega (arith, numbers c.requires.stands, c.requires.inside)

pub write_slot-requires : goal.write_slot-requires
write_slot-requires t c = omega (arith, numbers c.requires.stands, c.requires.inside)

pub shape_of-s-then-count-le1 : goal.shape_of-s-then-count-le1
shape_of-s-then-count-le1 t c = c.write_slot.auto.s

pub returns-then-count-le1 : goal.returns-then-count-le1
returns-then-count-le1 t c = take_last c.requires _ c.slot_at-a.ensures c.if-count-le1.true _ _ c.no_element.ensures c.write_slot.ensures

pub overflow_add-below : goal.overflow_add-below
overflow_add-below t c = omega (arith, numbers c.requires.stands, c.requires.inside)

pub overflow_mul-below : goal.overflow_mul-below
overflow_mul-below t c = omega (arith, below-small c.requires.stands c.args.j c.requires.inside)

pub overflow_sub-under : goal.overflow_sub-under
overflow_sub-under t c = lift-cap c.requires _ c.slot_at-a.ensures c.if-count-le1.false

pub nonzero_div-under : goal.nonzero_div-under
nonzero_div-under t c = omega (arith, numbers c.requires.stands)

pub find_low-requires : goal.find_low-requires
find_low-requires t c = look_in (lift-stands c.requires _ c.slot_at-a.ensures c.if-count-le1.false)

pub returns-in_default : goal.returns-in_default
returns-in_default t c = take-off c.requires _ c.slot_at-a.ensures c.if-count-le1.false c.in_default.ensures.place

pub overflow_add-below-2 : goal.overflow_add-below-2
overflow_add-below-2 t c = omega (arith, numbers (lift-stands c.requires _ c.slot_at-a.ensures c.if-count-le1.false), lift-looked c.requires _ c.slot_at-a.ensures c.if-count-le1.false _ c.in-Some.ensures.place)

pub slot_at-requires : goal.slot_at-requires
slot_at-requires t c = omega (arith, numbers (lift-stands c.requires _ c.slot_at-a.ensures c.if-count-le1.false), lift-looked c.requires _ c.slot_at-a.ensures c.if-count-le1.false _ c.in-Some.ensures.place)

pub overflow_sub-left : goal.overflow_sub-left
overflow_sub-left t c = omega (arith, c.requires.stands.some)

pub take-requires : goal.take-requires
take-requires t c = (omega (arith, c.decreases, c.requires.stands.some), lift-looked c.requires _ c.slot_at-a.ensures c.if-count-le1.false _ c.in-Some.ensures.place)

pub shape_of-s-then-not-take : goal.shape_of-s-then-not-take
shape_of-s-then-not-take t c = c.take.auto.s

pub returns-then-not-take : goal.returns-then-not-take
returns-then-not-take t c = take-fails c.requires _ c.slot_at-a.ensures c.if-count-le1.false _ c.in-Some.ensures.place _ c.slot_at.ensures _ _ c.take.ensures c.if-not-take.true-raw

pub write_slot-requires-2 : goal.write_slot-requires-2
write_slot-requires-2 t c = omega (arith, numbers c.requires.stands, c.requires.inside, c.take.auto.s)

pub shape_of-s : goal.shape_of-s
shape_of-s t c = c.write_slot-2.auto.s ∙ c.take.auto.s

pub returns : goal.returns
returns t c = take-passes c.requires _ c.slot_at-a.ensures c.if-count-le1.false _ c.in-Some.ensures.place _ c.slot_at.ensures _ _ c.take.ensures c.if-not-take.false-raw _ c.write_slot-2.ensures
