-- `tree::push` meets its contract.
use Rattle.laws.specs.Prelude.{◌∙◌, ◌≡◌, arith, false, sym, untagged}
use Rattle.std.proofs.lemmas.Result.{err_from_is_err_and}
use Rattle.tree.proofs.Calls.{called-shape, Fit, fit, push-below, push-done, push-over, push-root, root_stands, shape-few, shape-here}
use Rattle.tree.proofs.push.Goals as goal
use Rattle.tree.proofs.push.Goals.{After-capacity-cap, Start}

-- the shape is tested, and the room below the root counted
abbrev start : After-capacity-cap → Start
start c = (goal.at.After-capacity-cap c).Start

has : (c : After-capacity-cap) → untagged (start c).args.x ≡ false
has c =
    sym c.is_untagged.ensures ∙ c.if-is_untagged.false

fitting : (c : After-capacity-cap) → Fit (start c).args.order (start c).args.levels c.capacity-cap.result (start c).args.store.now
fitting c = fit _ _ _ _ c.shape_ok.ensures c.if-not-shape_ok.false-raw _ c.capacity-cap.ensures.counts

pub returns-then-is_untagged : goal.returns-then-is_untagged
returns-then-is_untagged c = (c.bar.ensures c.args.x (sym c.is_untagged.ensures ∙ c.if-is_untagged.true)).0

pub returns-then-not-shape_ok : goal.returns-then-not-shape_ok
returns-then-not-shape_ok c = called-shape _ _ _ _ _ c.shape_ok.ensures c.if-not-shape_ok.true-raw

pub overflow_sub-levels : goal.overflow_sub-levels
overflow_sub-levels c = omega (arith, shape-here c.args.order c.args.levels c.args.store.now _ c.shape_ok.ensures c.if-not-shape_ok.false-raw)

pub capacity-cap-requires : goal.capacity-cap-requires
capacity-cap-requires c = shape-few c.args.order c.args.levels c.args.store.now _ c.shape_ok.ensures c.if-not-shape_ok.false-raw

pub put-requires : goal.put-requires
put-requires c = root_stands (fitting (goal.at.put-requires c).After-capacity-cap)

pub returns-then-put : goal.returns-then-put
returns-then-put c = push-done (fitting (goal.at.returns-then-put c).After-capacity-cap) (start (goal.at.returns-then-put c).After-capacity-cap).args.x (has (goal.at.returns-then-put c).After-capacity-cap) _ _ c.put.ensures c.if-put.true

pub capacity-requires : goal.capacity-requires
capacity-requires c = (fitting (goal.at.capacity-requires c).After-capacity-cap).few

pub returns-then-n-capacity : goal.returns-then-n-capacity
returns-then-n-capacity c = push-below (fitting (goal.at.returns-then-n-capacity c).After-capacity-cap) (start (goal.at.returns-then-n-capacity c).After-capacity-cap).args.x (has (goal.at.returns-then-n-capacity c).After-capacity-cap) _ _ c.put.ensures c.if-put.false _ (sym c.in_ok-n.was ∙ c.held.ensures) _ c.capacity.ensures.counts c.if-n-capacity.true

pub returns-in_err-n : goal.returns-in_err-n
returns-in_err-n c =
    let p = err_from_is_err_and c.from_residual.result c.from_residual.ensures.1 in
    rw (p.1, p.2) (push-root (fitting (goal.at.returns-in_err-n c).After-capacity-cap) (start (goal.at.returns-in_err-n c).After-capacity-cap).args.x (has (goal.at.returns-in_err-n c).After-capacity-cap) _ _ c.put.ensures c.if-put.false _ (sym c.in_err-n.was ∙ c.held.ensures))

pub returns : goal.returns
returns c = push-over (fitting (goal.at.returns c).After-capacity-cap) (start (goal.at.returns c).After-capacity-cap).args.x (has (goal.at.returns c).After-capacity-cap) _ _ c.put.ensures c.if-put.false _ (sym c.in_ok-n.was ∙ c.held.ensures) _ c.capacity.ensures.counts c.if-n-capacity.false
