use Rattle.cluster_clock.proofs.Public.{bad-cycle, good-cycle, good-shape}
use Rattle.cluster.proofs.Shapes.{nodes-less, shape-here}
use Rattle.laws.specs.Prelude.{arith}
use Rattle.cluster_clock.proofs.cycle.Goals as goal

pub returns-then-not-shape_ok : goal.returns-then-not-shape_ok
returns-then-not-shape_ok c = bad-cycle c.args.places c.args.levels c.args.store.now c.shape_ok.result c.shape_ok.ensures c.if-not-shape_ok.true-raw _ _ _ c.left_as.ensures _

pub overflow_sub-below : goal.overflow_sub-below
overflow_sub-below c = let h = shape-here c.args.places c.args.levels c.args.store.now c.shape_ok.result c.shape_ok.ensures c.if-not-shape_ok.false-raw in omega (arith, h.some)

pub room_of-top-requires : goal.room_of-top-requires
room_of-top-requires c = ((shape-here c.args.places c.args.levels c.args.store.now c.shape_ok.result c.shape_ok.ensures c.if-not-shape_ok.false-raw).few, nodes-less c.args.places c.args.levels c.args.store.now c.shape_ok.result c.shape_ok.ensures c.if-not-shape_ok.false-raw)

pub cycle_shaped-requires : goal.cycle_shaped-requires
cycle_shaped-requires c = (good-shape c.args.places c.args.levels c.args.store.now c.shape_ok.result c.shape_ok.ensures c.if-not-shape_ok.false-raw, c.room_of-top.ensures)

pub returns : goal.returns
returns c = good-cycle c.args.places c.args.levels c.args.store.now c.shape_ok.result c.shape_ok.ensures c.if-not-shape_ok.false-raw _ _ _ c.cycle_shaped.ensures
