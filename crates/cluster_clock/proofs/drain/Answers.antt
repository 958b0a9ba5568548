use Rattle.cluster_clock.proofs.Public.{bad-drain, good-drain, good-shape}
use Rattle.cluster.proofs.Shapes.{nodes-less, shape-here}
use Rattle.laws.specs.Prelude.{arith}
use Rattle.cluster_clock.proofs.drain.Goals as goal

pub returns-then-not-shape_ok : goal.returns-then-not-shape_ok
returns-then-not-shape_ok c = bad-drain c.args.places c.args.levels c.args.store.now c.shape_ok.result c.shape_ok.ensures c.if-not-shape_ok.true-raw _ _ _ _ _ _ c.report.ensures

pub overflow_sub-below : goal.overflow_sub-below
overflow_sub-below c = let h = shape-here c.args.places c.args.levels c.args.store.now c.shape_ok.result c.shape_ok.ensures c.if-not-shape_ok.false-raw in omega (arith, h.some)

pub room_of-top-requires : goal.room_of-top-requires
room_of-top-requires c = ((shape-here c.args.places c.args.levels c.args.store.now c.shape_ok.result c.shape_ok.ensures c.if-not-shape_ok.false-raw).few, nodes-less c.args.places c.args.levels c.args.store.now c.shape_ok.result c.shape_ok.ensures c.if-not-shape_ok.false-raw)

pub drain_shaped-requires : goal.drain_shaped-requires
drain_shaped-requires c = (good-shape c.args.places c.args.levels c.args.store.now c.shape_ok.result c.shape_ok.ensures c.if-not-shape_ok.false-raw, c.room_of-top.ensures)

pub returns : goal.returns
returns c = good-drain c.args.places c.args.levels c.args.store.now c.shape_ok.result c.shape_ok.ensures c.if-not-shape_ok.false-raw _ _ _ c.drain_shaped.ensures
