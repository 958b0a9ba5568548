-- `tree_path::put` meets its contract.
use Rattle.laws.specs.Prelude.{◌∙◌, arith}
use Rattle.tree_path.proofs.Once.{below-small, look_in, numbers, put-cap, put-crowded, put-ends, put-fails, put-inside, put-off, put-passes, put-stands}
use Rattle.tree_path.proofs.+put.Goals as goal

-- the levels left fall
pub find_least-requires : goal.find_least-requires
find_least-requires t c = look_in c.requires

pub returns-in_default : goal.returns-in_default
returns-in_default t c = put-off c.requires c.args.x c.in_default.ensures

pub overflow_add-i : goal.overflow_add-i
overflow_add-i t c = omega (arith, numbers c.requires, put-inside c.requires c.args.x c.in-Some.j c.in-Some.ensures)

pub slot_at-a-requires : goal.slot_at-a-requires
slot_at-a-requires t c = omega (arith, numbers c.requires, put-inside c.requires c.args.x c.in-Some.j c.in-Some.ensures)

pub returns-then-cap-count : goal.returns-then-cap-count
returns-then-cap-count t c = put-crowded c.requires c.args.x _ c.in-Some.ensures _ c.slot_at-a.ensures c.if-cap-count.true

pub write_slot-requires : goal.write_slot-requires
write_slot-requires t c = omega (arith, numbers c.requires, put-inside c.requires c.args.x c.in-Some.j c.in-Some.ensures)

pub shape_of-s-then-count-eq0 : goal.shape_of-s-then-count-eq0
shape_of-s-then-count-eq0 t c = c.write_slot.auto.s

pub returns-then-count-eq0 : goal.returns-then-count-eq0
returns-then-count-eq0 t c = put-ends c.requires c.args.x _ c.in-Some.ensures _ c.slot_at-a.ensures c.if-cap-count.false c.if-count-eq0.true _ c.write_slot.ensures

pub overflow_add-below : goal.overflow_add-below
overflow_add-below t c = omega (arith, numbers c.requires, put-inside c.requires c.args.x c.in-Some.j c.in-Some.ensures)

pub overflow_mul-below : goal.overflow_mul-below
overflow_mul-below t c = omega (arith, below-small c.requires c.in-Some.j (put-inside c.requires c.args.x c.in-Some.j c.in-Some.ensures))

pub overflow_sub-under : goal.overflow_sub-under
overflow_sub-under t c = put-cap c.requires c.args.x _ c.in-Some.ensures _ c.slot_at-a.ensures c.if-cap-count.false c.if-count-eq0.false

pub nonzero_div-under : goal.nonzero_div-under
nonzero_div-under t c = omega (arith, numbers c.requires)

pub overflow_sub-left : goal.overflow_sub-left
overflow_sub-left t c = omega (arith, c.requires.some)

pub put-requires : goal.put-requires
put-requires t c = (omega (arith, c.decreases, c.requires.some), put-stands c.requires c.args.x _ c.in-Some.ensures _ c.slot_at-a.ensures c.if-cap-count.false c.if-count-eq0.false)

pub shape_of-s-then-not-put : goal.shape_of-s-then-not-put
shape_of-s-then-not-put t c = c.put.auto.s

pub returns-then-not-put : goal.returns-then-not-put
returns-then-not-put t c = put-fails c.requires c.args.x _ c.in-Some.ensures _ c.slot_at-a.ensures c.if-cap-count.false c.if-count-eq0.false _ _ c.stays-up.ensures c.goes_down-down.ensures _ _ c.put.ensures c.if-not-put.true-raw

pub overflow_add-count : goal.overflow_add-count
overflow_add-count t c = omega (arith, numbers c.requires, c.if-cap-count.false)

pub write_slot-requires-2 : goal.write_slot-requires-2
write_slot-requires-2 t c = omega (arith, numbers c.requires, put-inside c.requires c.args.x c.in-Some.j c.in-Some.ensures, c.put.auto.s)

pub shape_of-s : goal.shape_of-s
shape_of-s t c = c.write_slot-2.auto.s ∙ c.put.auto.s

pub returns : goal.returns
returns t c = put-passes c.requires c.args.x _ c.in-Some.ensures _ c.slot_at-a.ensures c.if-cap-count.false c.if-count-eq0.false _ _ c.stays-up.ensures c.goes_down-down.ensures _ _ c.put.ensures c.if-not-put.false-raw _ c.write_slot-2.ensures
