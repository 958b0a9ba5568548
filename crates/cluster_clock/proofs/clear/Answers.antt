use Rattle.cluster_clock.proofs.Public.{bad-clear, good-clear}
use Rattle.cluster_clock.proofs.clear.Goals as goal

pub returns-then-not-shape_ok : goal.returns-then-not-shape_ok
returns-then-not-shape_ok c = bad-clear c.args.places c.args.levels c.args.store.now c.shape_ok.result c.shape_ok.ensures c.if-not-shape_ok.true-raw _ _ _ c.left_as.ensures

pub returns : goal.returns
returns c = good-clear c.args.places c.args.levels c.args.store.now c.shape_ok.result c.shape_ok.ensures c.if-not-shape_ok.false-raw _ _ _ _ c.clear.ensures c.fresh_records.ensures
