use Rattle.cluster_clock.proofs.Public.{bad-held, good-root, held-damaged, held-fine}
use Rattle.cluster.proofs.Shapes.{nodes-less, shape-here}
use Rattle.laws.specs.Prelude.{arith}
use Rattle.cluster_clock.proofs.held.Goals as goal

pub returns-then-not-shape_ok : goal.returns-then-not-shape_ok
returns-then-not-shape_ok c = bad-held c.args.places c.args.levels c.args.store.now c.shape_ok.result c.shape_ok.ensures c.if-not-shape_ok.true-raw

pub overflow_sub-levels : goal.overflow_sub-levels
overflow_sub-levels c = let h = shape-here c.args.places c.args.levels c.args.store.now c.shape_ok.result c.shape_ok.ensures c.if-not-shape_ok.false-raw in omega (arith, h.some)

pub room_of-top-requires : goal.room_of-top-requires
room_of-top-requires c = ((shape-here c.args.places c.args.levels c.args.store.now c.shape_ok.result c.shape_ok.ensures c.if-not-shape_ok.false-raw).few, nodes-less c.args.places c.args.levels c.args.store.now c.shape_ok.result c.shape_ok.ensures c.if-not-shape_ok.false-raw)

pub open_root-requires : goal.open_root-requires
open_root-requires c = good-root c.args.places c.args.levels c.args.store.now c.shape_ok.result c.shape_ok.ensures c.if-not-shape_ok.false-raw _ c.room_of-top.ensures

pub returns-in-None : goal.returns-in-None
returns-in-None c = held-damaged c.args.places c.args.levels c.args.store.now c.shape_ok.result c.shape_ok.ensures c.if-not-shape_ok.false-raw _ c.room_of-top.ensures c.in-None.ensures

pub returns-in-Some : goal.returns-in-Some
returns-in-Some c = held-fine c.args.places c.args.levels c.args.store.now c.shape_ok.result c.shape_ok.ensures c.if-not-shape_ok.false-raw _ c.room_of-top.ensures _ c.in-Some.ensures
