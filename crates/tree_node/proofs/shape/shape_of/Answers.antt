-- `tree_node::shape::shape_of` meets its contract.
use Rattle.laws.specs.Prelude.{refl}
use Rattle.tree_node.proofs.Steps.{shape-range}
use Rattle.tree_node.proofs.Shapes.{shaped-above, shaped-none, shaped-order, shaped-tree}
use Rattle.tree_node.proofs.shape.shape_of.Goals as goal

pub returns-then-not-order_ok : goal.returns-then-not-order_ok
returns-then-not-order_ok c = shaped-order _ _ _ c.order_ok.ensures _ c.if-not-order_ok.true-raw c.no_shape.ensures

pub returns-then-levels-eq0 : goal.returns-then-levels-eq0
returns-then-levels-eq0 c = shaped-none _ _ _ c.order_ok.ensures _ c.if-levels-eq0.true c.no_shape-then-levels-eq0.ensures

pub capacity-slots-requires : goal.capacity-slots-requires
capacity-slots-requires c = shape-range _ c.args.levels 0 _ c.order_ok.ensures c.if-not-order_ok.false-raw

pub returns-then-slots-gt-SLOT_LIMIT : goal.returns-then-slots-gt-SLOT_LIMIT
returns-then-slots-gt-SLOT_LIMIT c = shaped-above _ _ _ c.order_ok.ensures _ c.if-not-order_ok.false-raw c.if-levels-eq0.false _ c.capacity-slots.ensures.counts c.if-slots-gt-SLOT_LIMIT.true c.no_shape-then-slots-gt-SLOT_LIMIT.ensures

pub room_under-room-requires : goal.room_under-room-requires
room_under-room-requires c = (shape-range _ c.args.levels 0 _ c.order_ok.ensures c.if-not-order_ok.false-raw).0

pub returns : goal.returns
returns c = shaped-tree _ _ _ c.order_ok.ensures _ c.if-not-order_ok.false-raw c.if-levels-eq0.false _ c.capacity-slots.ensures.counts c.if-slots-gt-SLOT_LIMIT.false _ c.room_under-room.ensures refl refl refl
