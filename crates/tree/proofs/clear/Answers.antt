-- `tree::clear` meets its contract.
use Rattle.laws.specs.Prelude.{arith}
use Rattle.tree.proofs.Calls.{clear-done, clear-fits, clear-shape, shape-few}
use Rattle.tree.proofs.clear.Goals as goal

pub returns-then-not-shape_ok : goal.returns-then-not-shape_ok
returns-then-not-shape_ok c = clear-shape _ _ _ _ c.shape_ok.ensures c.if-not-shape_ok.true-raw

pub capacity-requires : goal.capacity-requires
capacity-requires c = shape-few c.args.order c.args.levels c.args.store.now _ c.shape_ok.ensures c.if-not-shape_ok.false-raw

pub overflow_mul-capacity : goal.overflow_mul-capacity
overflow_mul-capacity c = omega (arith, clear-fits c.args.order c.args.levels c.args.store.now _ c.shape_ok.ensures c.if-not-shape_ok.false-raw c.capacity.result c.capacity.ensures.counts)

pub zero_words-requires : goal.zero_words-requires
zero_words-requires c = (clear-fits c.args.order c.args.levels c.args.store.now _ c.shape_ok.ensures c.if-not-shape_ok.false-raw _ c.capacity.ensures.counts).0

pub returns : goal.returns
returns c = clear-done _ _ _ _ c.shape_ok.ensures c.if-not-shape_ok.false-raw _ c.capacity.ensures.counts _ c.zero_words.ensures
