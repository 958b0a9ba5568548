-- `packed::replace_open` meets its contract.
use native.Mathlib.Nat.{pos_of_ne-zero}
use Rattle.laws.specs.Prelude.{arith, inr, refl}
use Rattle.packed.proofs.Calls.{depth-few, open-ground, replace-bad, replace-done, replace-none, replace-room, replace-tag, seat-of, sink-ready, slot-at-of, slot-lies}
use Rattle.packed.proofs.replace_open.Goals as goal

pub returns-then-is_untagged : goal.returns-then-is_untagged
returns-then-is_untagged c = replace-tag c.args.heaps c.args.levels c.args.heap c.args.n c.args.store.now c.requires c.args.x c.is_untagged.result c.is_untagged.ensures c.if-is_untagged.true

pub returns-then-n-eq0 : goal.returns-then-n-eq0
returns-then-n-eq0 c = replace-none c.args.heaps c.args.levels c.args.heap c.args.n c.args.store.now c.requires c.args.x c.is_untagged.result c.is_untagged.ensures c.if-is_untagged.false c.if-n-eq0.true

pub depth_of-d-requires : goal.depth_of-d-requires
depth_of-d-requires c = (open-ground c.args.heaps c.args.levels c.args.heap c.args.n c.args.store.now c.requires).few

pub power-q-requires : goal.power-q-requires
power-q-requires c = depth-few c.args.levels c.args.n c.depth_of-d.result (open-ground c.args.heaps c.args.levels c.args.heap c.args.n c.args.store.now c.requires).few c.depth_of-d.ensures

pub overflow_sub-count : goal.overflow_sub-count
overflow_sub-count c = (slot-at-of c.args.heaps c.args.levels c.args.heap c.args.n c.args.store.now c.requires c.args.n c.depth_of-d.result c.power-q.result refl (pos_of_ne-zero c.if-n-eq0.false) c.depth_of-d.ensures c.power-q.ensures).from

pub slot_at-last-requires : goal.slot_at-last-requires
slot_at-last-requires c = ((open-ground c.args.heaps c.args.levels c.args.heap c.args.n c.args.store.now c.requires).shape.most, c.requires.heap, (slot-at-of c.args.heaps c.args.levels c.args.heap c.args.n c.args.store.now c.requires c.args.n c.depth_of-d.result c.power-q.result refl (pos_of_ne-zero c.if-n-eq0.false) c.depth_of-d.ensures c.power-q.ensures).small, (slot-at-of c.args.heaps c.args.levels c.args.heap c.args.n c.args.store.now c.requires c.args.n c.depth_of-d.result c.power-q.result refl (pos_of_ne-zero c.if-n-eq0.false) c.depth_of-d.ensures c.power-q.ensures).upto)

pub slot-top-requires : goal.slot-top-requires
slot-top-requires c = (open-ground c.args.heaps c.args.levels c.args.heap c.args.n c.args.store.now c.requires).top

pub overflow_sub-levels : goal.overflow_sub-levels
overflow_sub-levels c = omega (arith, (open-ground c.args.heaps c.args.levels c.args.heap c.args.n c.args.store.now c.requires).shape.some)

pub rest_slot-requires : goal.rest_slot-requires
rest_slot-requires c = sink-ready c.args.heaps c.args.levels c.args.heap c.args.n c.args.store.now c.requires _ _ (slot-lies c.args.heaps c.args.levels c.args.heap c.args.n c.args.store.now c.requires c.args.n c.depth_of-d.result c.power-q.result refl (pos_of_ne-zero c.if-n-eq0.false) c.depth_of-d.ensures c.power-q.ensures c.slot_at-last.result c.slot_at-last.ensures) (inr c.requires.heap)

pub returns-in_default : goal.returns-in_default
returns-in_default c = replace-bad c.args.heaps c.args.levels c.args.heap c.args.n c.args.store.now c.requires c.args.x c.is_untagged.result c.is_untagged.ensures c.if-is_untagged.false c.if-n-eq0.false c.slot_at-last.result (seat-of c.args.heaps c.args.levels c.args.heap c.args.n c.args.store.now c.requires c.args.n c.depth_of-d.result c.power-q.result refl (pos_of_ne-zero c.if-n-eq0.false) c.depth_of-d.ensures c.power-q.ensures _ c.slot_at-last.ensures) c.in_default.ensures

pub climb-requires : goal.climb-requires
climb-requires c = ((open-ground c.args.heaps c.args.levels c.args.heap c.args.n c.args.store.now c.requires).shape.one, replace-room c.args.heaps c.args.levels c.args.heap c.args.n c.args.store.now c.requires c.args.x c.is_untagged.result c.is_untagged.ensures c.if-is_untagged.false c.if-n-eq0.false c.slot_at-last.result (seat-of c.args.heaps c.args.levels c.args.heap c.args.n c.args.store.now c.requires c.args.n c.depth_of-d.result c.power-q.result refl (pos_of_ne-zero c.if-n-eq0.false) c.depth_of-d.ensures c.power-q.ensures _ c.slot_at-last.ensures) c.in-Some.end c.in-Some.ensures)

pub returns : goal.returns
returns c = replace-done c.args.heaps c.args.levels c.args.heap c.args.n c.args.store.now c.requires c.args.x c.is_untagged.result c.is_untagged.ensures c.if-is_untagged.false c.if-n-eq0.false c.slot_at-last.result (seat-of c.args.heaps c.args.levels c.args.heap c.args.n c.args.store.now c.requires c.args.n c.depth_of-d.result c.power-q.result refl (pos_of_ne-zero c.if-n-eq0.false) c.depth_of-d.ensures c.power-q.ensures _ c.slot_at-last.ensures) c.in-Some.end c.in-Some.ensures _ c.slot-top.ensures _ c.climb.ensures
