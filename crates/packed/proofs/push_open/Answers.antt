-- `packed::push_open` meets its contract.
use Rattle.laws.specs.Prelude.{arith, refl, ◌+◌}
use Rattle.packed.proofs.Calls.{depth-few, end-lies, open-ground, open-small, push_at, push-bad, push-done, push-full, push-ready, push-tag}
use Rattle.packed.proofs.push_open.Goals as goal

pub overflow_add-store : goal.overflow_add-store
overflow_add-store c = omega (arith, c.if-capacity_of-count.false, c.capacity_of.ensures, open-small c.args.heaps c.args.levels c.args.heap c.args.n c.args.store.now c.requires)

pub returns-then-is_untagged : goal.returns-then-is_untagged
returns-then-is_untagged c = push-tag c.args.heaps c.args.levels c.args.heap c.args.n c.args.store.now c.requires c.args.x c.is_untagged.result c.is_untagged.ensures c.if-is_untagged.true

pub capacity_of-requires : goal.capacity_of-requires
capacity_of-requires c = (open-ground c.args.heaps c.args.levels c.args.heap c.args.n c.args.store.now c.requires).few

pub returns-then-capacity_of-count : goal.returns-then-capacity_of-count
returns-then-capacity_of-count c = push-full c.args.heaps c.args.levels c.args.heap c.args.n c.args.store.now c.requires c.args.x c.is_untagged.result c.is_untagged.ensures c.if-is_untagged.false _ _ refl c.capacity_of.ensures c.if-capacity_of-count.true

pub depth_of-d-requires : goal.depth_of-d-requires
depth_of-d-requires c = (open-ground c.args.heaps c.args.levels c.args.heap c.args.n c.args.store.now c.requires).few

pub power-q-requires : goal.power-q-requires
power-q-requires c = depth-few c.args.levels (c.args.n + 1) c.depth_of-d.result (open-ground c.args.heaps c.args.levels c.args.heap c.args.n c.args.store.now c.requires).few c.depth_of-d.ensures

pub overflow_sub-count : goal.overflow_sub-count
overflow_sub-count c = (push_at c.args.heaps c.args.levels c.args.heap c.args.n c.args.store.now c.requires c.args.x c.is_untagged.result c.is_untagged.ensures c.if-is_untagged.false c.args.n c.capacity_of.result c.depth_of-d.result c.power-q.result refl c.capacity_of.ensures c.if-capacity_of-count.false c.depth_of-d.ensures c.power-q.ensures).from

pub slot_at-end-requires : goal.slot_at-end-requires
slot_at-end-requires c = ((open-ground c.args.heaps c.args.levels c.args.heap c.args.n c.args.store.now c.requires).shape.most, c.requires.heap, (push_at c.args.heaps c.args.levels c.args.heap c.args.n c.args.store.now c.requires c.args.x c.is_untagged.result c.is_untagged.ensures c.if-is_untagged.false c.args.n c.capacity_of.result c.depth_of-d.result c.power-q.result refl c.capacity_of.ensures c.if-capacity_of-count.false c.depth_of-d.ensures c.power-q.ensures).small, (push_at c.args.heaps c.args.levels c.args.heap c.args.n c.args.store.now c.requires c.args.x c.is_untagged.result c.is_untagged.ensures c.if-is_untagged.false c.args.n c.capacity_of.result c.depth_of-d.result c.power-q.result refl c.capacity_of.ensures c.if-capacity_of-count.false c.depth_of-d.ensures c.power-q.ensures).upto)

pub put_from-requires : goal.put_from-requires
put_from-requires c = ((open-ground c.args.heaps c.args.levels c.args.heap c.args.n c.args.store.now c.requires).shape.one, end-lies c.args.heaps c.args.levels c.args.heap c.args.n c.args.store.now c.requires c.args.x c.is_untagged.result c.is_untagged.ensures c.if-is_untagged.false c.args.n c.capacity_of.result c.depth_of-d.result c.power-q.result refl c.capacity_of.ensures c.if-capacity_of-count.false c.depth_of-d.ensures c.power-q.ensures c.slot_at-end.result c.slot_at-end.ensures)

pub returns-in_default : goal.returns-in_default
returns-in_default c = push-bad c.args.heaps c.args.levels c.args.heap c.args.n c.args.store.now c.requires c.args.x c.is_untagged.result c.is_untagged.ensures c.if-is_untagged.false c.args.n c.capacity_of.result c.depth_of-d.result c.power-q.result refl c.capacity_of.ensures c.if-capacity_of-count.false c.depth_of-d.ensures c.power-q.ensures c.slot_at-end.result c.slot_at-end.ensures c.in_default.ensures

pub put_down-requires : goal.put_down-requires
put_down-requires c = push-ready c.args.heaps c.args.levels c.args.heap c.args.n c.args.store.now c.requires c.args.x c.is_untagged.result c.is_untagged.ensures c.if-is_untagged.false c.args.n c.capacity_of.result c.depth_of-d.result c.power-q.result refl c.capacity_of.ensures c.if-capacity_of-count.false c.depth_of-d.ensures c.power-q.ensures c.slot_at-end.result c.slot_at-end.ensures c.in-Some.from c.in-Some.ensures

pub offset_bounds-store-heap : goal.offset_bounds-store-heap
offset_bounds-store-heap c = omega (arith, (open-ground c.args.heaps c.args.levels c.args.heap c.args.n c.args.store.now c.requires).long, c.put_down.auto.s)

pub bounds-store-heap : goal.bounds-store-heap
bounds-store-heap c = omega (arith, (open-ground c.args.heaps c.args.levels c.args.heap c.args.n c.args.store.now c.requires).long, c.put_down.auto.s)

pub returns : goal.returns
returns c = push-done c.args.heaps c.args.levels c.args.heap c.args.n c.args.store.now c.requires c.args.x c.is_untagged.result c.is_untagged.ensures c.if-is_untagged.false c.args.n c.capacity_of.result c.depth_of-d.result c.power-q.result refl c.capacity_of.ensures c.if-capacity_of-count.false c.depth_of-d.ensures c.power-q.ensures c.slot_at-end.result c.slot_at-end.ensures c.in-Some.from c.in-Some.ensures _ c.put_down.ensures
