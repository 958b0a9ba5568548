-- `packed::pop_open` meets its contract.
use native.Mathlib.Nat.{pos_of_ne-zero}
use Rattle.laws.specs.Prelude.{arith, inl, refl, ◌-◌}
use Rattle.packed.proofs.Calls.{before_last, depth-few, last-is, not_first, open-ground, pop-bare, pop-done, pop-none, pop-only, pop-room, pop-stop, seat-of, sink-ready, slot-at-of, slot-lies}
use Rattle.packed.proofs.pop_open.Goals as goal

pub returns-then-n-eq0 : goal.returns-then-n-eq0
returns-then-n-eq0 c = pop-none c.args.heaps c.args.levels c.args.heap c.args.n c.args.store.now c.requires c.if-n-eq0.true

pub depth_of-d-requires : goal.depth_of-d-requires
depth_of-d-requires c = (open-ground c.args.heaps c.args.levels c.args.heap c.args.n c.args.store.now c.requires).few

pub power-q-requires : goal.power-q-requires
power-q-requires c = depth-few c.args.levels c.args.n c.depth_of-d.result (open-ground c.args.heaps c.args.levels c.args.heap c.args.n c.args.store.now c.requires).few c.depth_of-d.ensures

pub overflow_sub-count : goal.overflow_sub-count
overflow_sub-count c = (slot-at-of c.args.heaps c.args.levels c.args.heap c.args.n c.args.store.now c.requires c.args.n c.depth_of-d.result c.power-q.result refl (pos_of_ne-zero c.if-n-eq0.false) c.depth_of-d.ensures c.power-q.ensures).from

pub slot_at-p-requires : goal.slot_at-p-requires
slot_at-p-requires c = ((open-ground c.args.heaps c.args.levels c.args.heap c.args.n c.args.store.now c.requires).shape.most, c.requires.heap, (slot-at-of c.args.heaps c.args.levels c.args.heap c.args.n c.args.store.now c.requires c.args.n c.depth_of-d.result c.power-q.result refl (pos_of_ne-zero c.if-n-eq0.false) c.depth_of-d.ensures c.power-q.ensures).small, (slot-at-of c.args.heaps c.args.levels c.args.heap c.args.n c.args.store.now c.requires c.args.n c.depth_of-d.result c.power-q.result refl (pos_of_ne-zero c.if-n-eq0.false) c.depth_of-d.ensures c.power-q.ensures).upto)

pub slot-last-requires : goal.slot-last-requires
slot-last-requires c = slot-lies c.args.heaps c.args.levels c.args.heap c.args.n c.args.store.now c.requires c.args.n c.depth_of-d.result c.power-q.result refl (pos_of_ne-zero c.if-n-eq0.false) c.depth_of-d.ensures c.power-q.ensures _ c.slot_at-p.ensures

pub returns-then-is_untagged : goal.returns-then-is_untagged
returns-then-is_untagged c = pop-bare c.args.heaps c.args.levels c.args.heap c.args.n c.args.store.now c.requires c.if-n-eq0.false c.slot_at-p.result (last-is c.args.heaps c.args.levels c.args.heap c.args.n c.args.store.now c.requires c.args.n c.depth_of-d.result c.power-q.result refl (pos_of_ne-zero c.if-n-eq0.false) c.depth_of-d.ensures c.power-q.ensures _ c.slot_at-p.ensures) (slot-lies c.args.heaps c.args.levels c.args.heap c.args.n c.args.store.now c.requires c.args.n c.depth_of-d.result c.power-q.result refl (pos_of_ne-zero c.if-n-eq0.false) c.depth_of-d.ensures c.power-q.ensures _ c.slot_at-p.ensures) c.slot-last.result c.slot-last.ensures c.is_untagged.result c.is_untagged.ensures c.if-is_untagged.true

pub slot-top-requires : goal.slot-top-requires
slot-top-requires c = (open-ground c.args.heaps c.args.levels c.args.heap c.args.n c.args.store.now c.requires).top

pub set_slot-requires : goal.set_slot-requires
set_slot-requires c = slot-lies c.args.heaps c.args.levels c.args.heap c.args.n c.args.store.now c.requires c.args.n c.depth_of-d.result c.power-q.result refl (pos_of_ne-zero c.if-n-eq0.false) c.depth_of-d.ensures c.power-q.ensures _ c.slot_at-p.ensures

pub returns-then-n-eq1 : goal.returns-then-n-eq1
returns-then-n-eq1 c = pop-only c.args.heaps c.args.levels c.args.heap c.args.n c.args.store.now c.requires c.if-n-eq0.false c.slot_at-p.result (last-is c.args.heaps c.args.levels c.args.heap c.args.n c.args.store.now c.requires c.args.n c.depth_of-d.result c.power-q.result refl (pos_of_ne-zero c.if-n-eq0.false) c.depth_of-d.ensures c.power-q.ensures _ c.slot_at-p.ensures) (slot-lies c.args.heaps c.args.levels c.args.heap c.args.n c.args.store.now c.requires c.args.n c.depth_of-d.result c.power-q.result refl (pos_of_ne-zero c.if-n-eq0.false) c.depth_of-d.ensures c.power-q.ensures _ c.slot_at-p.ensures) c.slot-last.result c.slot-last.ensures c.is_untagged.result c.is_untagged.ensures c.if-is_untagged.false c.slot-top.result c.slot-top.ensures c.if-n-eq1.true _ _ c.no_element.ensures c.set_slot.ensures

pub overflow_sub-levels : goal.overflow_sub-levels
overflow_sub-levels c = omega (arith, (open-ground c.args.heaps c.args.levels c.args.heap c.args.n c.args.store.now c.requires).shape.some)

pub overflow_sub-p : goal.overflow_sub-p
overflow_sub-p c = not_first c.args.heaps c.args.levels c.args.heap c.args.n c.args.store.now c.requires c.if-n-eq0.false c.if-n-eq1.false _ (seat-of c.args.heaps c.args.levels c.args.heap c.args.n c.args.store.now c.requires c.args.n c.depth_of-d.result c.power-q.result refl (pos_of_ne-zero c.if-n-eq0.false) c.depth_of-d.ensures c.power-q.ensures _ c.slot_at-p.ensures)

pub rest_slot-requires : goal.rest_slot-requires
rest_slot-requires c = sink-ready c.args.heaps c.args.levels c.args.heap c.args.n c.args.store.now c.requires (c.slot_at-p.result - 1) c.slot_at-p.result (omega (arith, slot-lies c.args.heaps c.args.levels c.args.heap c.args.n c.args.store.now c.requires c.args.n c.depth_of-d.result c.power-q.result refl (pos_of_ne-zero c.if-n-eq0.false) c.depth_of-d.ensures c.power-q.ensures c.slot_at-p.result c.slot_at-p.ensures)) (inl (before_last c.args.heaps c.args.levels c.args.heap c.args.n c.args.store.now c.requires c.if-n-eq0.false c.if-n-eq1.false _ (seat-of c.args.heaps c.args.levels c.args.heap c.args.n c.args.store.now c.requires c.args.n c.depth_of-d.result c.power-q.result refl (pos_of_ne-zero c.if-n-eq0.false) c.depth_of-d.ensures c.power-q.ensures _ c.slot_at-p.ensures)))

pub returns-in_default : goal.returns-in_default
returns-in_default c = pop-stop c.args.heaps c.args.levels c.args.heap c.args.n c.args.store.now c.requires c.if-n-eq0.false c.slot_at-p.result (last-is c.args.heaps c.args.levels c.args.heap c.args.n c.args.store.now c.requires c.args.n c.depth_of-d.result c.power-q.result refl (pos_of_ne-zero c.if-n-eq0.false) c.depth_of-d.ensures c.power-q.ensures _ c.slot_at-p.ensures) (slot-lies c.args.heaps c.args.levels c.args.heap c.args.n c.args.store.now c.requires c.args.n c.depth_of-d.result c.power-q.result refl (pos_of_ne-zero c.if-n-eq0.false) c.depth_of-d.ensures c.power-q.ensures _ c.slot_at-p.ensures) c.slot-last.result c.slot-last.ensures c.is_untagged.result c.is_untagged.ensures c.if-is_untagged.false c.slot-top.result c.slot-top.ensures c.if-n-eq1.false (seat-of c.args.heaps c.args.levels c.args.heap c.args.n c.args.store.now c.requires c.args.n c.depth_of-d.result c.power-q.result refl (pos_of_ne-zero c.if-n-eq0.false) c.depth_of-d.ensures c.power-q.ensures _ c.slot_at-p.ensures) c.in_default.ensures

pub set_slot-requires-2 : goal.set_slot-requires-2
set_slot-requires-2 c = slot-lies c.args.heaps c.args.levels c.args.heap c.args.n c.args.store.now c.requires c.args.n c.depth_of-d.result c.power-q.result refl (pos_of_ne-zero c.if-n-eq0.false) c.depth_of-d.ensures c.power-q.ensures _ c.slot_at-p.ensures

pub climb-requires : goal.climb-requires
climb-requires c = ((open-ground c.args.heaps c.args.levels c.args.heap c.args.n c.args.store.now c.requires).shape.one, omega (arith, pop-room c.args.heaps c.args.levels c.args.heap c.args.n c.args.store.now c.requires c.if-n-eq0.false c.slot_at-p.result (last-is c.args.heaps c.args.levels c.args.heap c.args.n c.args.store.now c.requires c.args.n c.depth_of-d.result c.power-q.result refl (pos_of_ne-zero c.if-n-eq0.false) c.depth_of-d.ensures c.power-q.ensures _ c.slot_at-p.ensures) (slot-lies c.args.heaps c.args.levels c.args.heap c.args.n c.args.store.now c.requires c.args.n c.depth_of-d.result c.power-q.result refl (pos_of_ne-zero c.if-n-eq0.false) c.depth_of-d.ensures c.power-q.ensures _ c.slot_at-p.ensures) c.slot-last.result c.slot-last.ensures c.is_untagged.result c.is_untagged.ensures c.if-is_untagged.false c.slot-top.result c.slot-top.ensures c.if-n-eq1.false (seat-of c.args.heaps c.args.levels c.args.heap c.args.n c.args.store.now c.requires c.args.n c.depth_of-d.result c.power-q.result refl (pos_of_ne-zero c.if-n-eq0.false) c.depth_of-d.ensures c.power-q.ensures _ c.slot_at-p.ensures) c.in-Some.end c.in-Some.ensures, c.set_slot-2.auto.s))

pub returns : goal.returns
returns c = pop-done c.args.heaps c.args.levels c.args.heap c.args.n c.args.store.now c.requires c.if-n-eq0.false c.slot_at-p.result (last-is c.args.heaps c.args.levels c.args.heap c.args.n c.args.store.now c.requires c.args.n c.depth_of-d.result c.power-q.result refl (pos_of_ne-zero c.if-n-eq0.false) c.depth_of-d.ensures c.power-q.ensures _ c.slot_at-p.ensures) (slot-lies c.args.heaps c.args.levels c.args.heap c.args.n c.args.store.now c.requires c.args.n c.depth_of-d.result c.power-q.result refl (pos_of_ne-zero c.if-n-eq0.false) c.depth_of-d.ensures c.power-q.ensures _ c.slot_at-p.ensures) c.slot-last.result c.slot-last.ensures c.is_untagged.result c.is_untagged.ensures c.if-is_untagged.false c.slot-top.result c.slot-top.ensures c.if-n-eq1.false (seat-of c.args.heaps c.args.levels c.args.heap c.args.n c.args.store.now c.requires c.args.n c.depth_of-d.result c.power-q.result refl (pos_of_ne-zero c.if-n-eq0.false) c.depth_of-d.ensures c.power-q.ensures _ c.slot_at-p.ensures) c.in-Some.end c.in-Some.ensures _ _ _ c.no_element-2.ensures c.set_slot-2.ensures c.climb.ensures
