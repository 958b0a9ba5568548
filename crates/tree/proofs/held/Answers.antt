-- `tree::held` meets its contract.
use Rattle.laws.specs.Prelude.{arith}
use Rattle.tree.proofs.Calls.{counted-root, counted-shape, counted-sum, Fit, fit, root_stands, shape-few, shape-here}
use Rattle.tree_path.proofs.Once.{look_in}
use Rattle.tree.proofs.held.Goals as goal
use Rattle.tree.proofs.held.Goals.{After-capacity, Start}

-- the shape is tested, and the room below the root counted
abbrev start : After-capacity → Start
start c = (goal.at.After-capacity c).Start

fitting : (c : After-capacity) → Fit (start c).args.order (start c).args.levels c.capacity.result (start c).args.store.now
fitting c = fit _ _ _ _ c.shape_ok.ensures c.if-not-shape_ok.false-raw _ c.capacity.ensures.counts

pub returns-then-not-shape_ok : goal.returns-then-not-shape_ok
returns-then-not-shape_ok c = counted-shape _ _ _ _ c.shape_ok.ensures c.if-not-shape_ok.true-raw

pub overflow_sub-levels : goal.overflow_sub-levels
overflow_sub-levels c = omega (arith, shape-here c.args.order c.args.levels c.args.store.now _ c.shape_ok.ensures c.if-not-shape_ok.false-raw)

pub capacity-requires : goal.capacity-requires
capacity-requires c = shape-few c.args.order c.args.levels c.args.store.now _ c.shape_ok.ensures c.if-not-shape_ok.false-raw

pub look_low-v-requires : goal.look_low-v-requires
look_low-v-requires c = look_in (root_stands (fitting c))

pub returns-then-not-v : goal.returns-then-not-v
returns-then-not-v c = counted-root (fitting (goal.at.returns-then-not-v c).After-capacity) _ c.look_low-v.ensures.whole c.if-not-v.true

pub sum_counts-requires : goal.sum_counts-requires
sum_counts-requires c = let r = look_in (root_stands (fitting (goal.at.sum_counts-requires c).After-capacity)) in (r.0, r.1)

pub overflow_cast-result : goal.overflow_cast-result
overflow_cast-result c = omega (arith, counted-sum (fitting (goal.at.overflow_cast-result c).After-capacity) c.look_low-v.result.ok c.look_low-v.ensures.whole c.if-not-v.false c.sum_counts.result c.sum_counts.ensures)

pub returns : goal.returns
returns c = (counted-sum (fitting (goal.at.returns c).After-capacity) _ c.look_low-v.ensures.whole c.if-not-v.false _ c.sum_counts.ensures).1
