use Rattle.laws.specs.Prelude.{List, ◌∙◌, arith, length, sym, ℕ}
use Rattle.std.proofs.lemmas.Result.{err_from_is_err_and}
use Rattle.cluster.specs.Coded.{push_down}
use Rattle.cluster.proofs.Opened.{bad-shape, put-ready}
use Rattle.cluster.proofs.Pushed.{push-done, push-root, push-over, push-below}
use Rattle.cluster.proofs.Shapes.{Passed, shape-here, nodes-here, nodes-less}
use Rattle.cluster.proofs.push_tagged.Goals as goal
use Rattle.cluster.proofs.push_tagged.Goals.{Else-not-shape_ok}

-- the shape is tested
abbrev words : Else-not-shape_ok → List ℕ
words c = c.args.store.now

shaped : (c : Else-not-shape_ok) → Passed c.args.k c.args.levels (length (words c))
shaped c = shape-here _ _ (words c) _ c.shape_ok.ensures c.if-not-shape_ok.false-raw

pub returns-then-not-shape_ok : goal.returns-then-not-shape_ok
unfolding push_down
returns-then-not-shape_ok c = bad-shape _ _ _ _ _ c.shape_ok.ensures c.if-not-shape_ok.true-raw

pub overflow_sub-levels : goal.overflow_sub-levels
overflow_sub-levels c = omega (arith, (shaped c).some)

pub capacity-limit-requires : goal.capacity-limit-requires
capacity-limit-requires c = ((shaped c).few, nodes-less _ _ (words c) _ c.shape_ok.ensures c.if-not-shape_ok.false-raw)

pub overflow_sub-levels-2 : goal.overflow_sub-levels-2
overflow_sub-levels-2 c = omega (arith, (shaped (goal.at.overflow_sub-levels-2 c).Else-not-shape_ok).some)

pub put-requires : goal.put-requires
put-requires c = put-ready _ _ (words (goal.at.put-requires c).Else-not-shape_ok) _ c.shape_ok.ensures c.if-not-shape_ok.false-raw _ c.capacity-limit.ensures

pub returns-then-put : goal.returns-then-put
returns-then-put c = push-done _ _ (words (goal.at.returns-then-put c).Else-not-shape_ok) _ c.shape_ok.ensures c.if-not-shape_ok.false-raw _ c.capacity-limit.ensures _ _ _ c.put.ensures c.if-put.true

pub capacity-requires : goal.capacity-requires
capacity-requires c = ((shaped (goal.at.capacity-requires c).Else-not-shape_ok).few, nodes-here _ _ (words (goal.at.capacity-requires c).Else-not-shape_ok) _ c.shape_ok.ensures c.if-not-shape_ok.false-raw)

pub returns-then-n-capacity : goal.returns-then-n-capacity
returns-then-n-capacity c = push-over _ _ (words (goal.at.returns-then-n-capacity c).Else-not-shape_ok) _ c.shape_ok.ensures c.if-not-shape_ok.false-raw _ c.capacity-limit.ensures _ _ _ c.put.ensures c.if-put.false _ (sym c.in_ok-n.was ∙ c.held.ensures) _ c.capacity.ensures c.if-n-capacity.true

pub returns-in_err-n : goal.returns-in_err-n
returns-in_err-n c =
    let p = err_from_is_err_and c.from_residual.result c.from_residual.ensures.1 in
    rw (p.1, p.2) (push-root _ _ (words (goal.at.returns-in_err-n c).Else-not-shape_ok) _ c.shape_ok.ensures c.if-not-shape_ok.false-raw _ c.capacity-limit.ensures _ _ _ c.put.ensures c.if-put.false _ (sym c.in_err-n.was ∙ c.held.ensures))

pub returns : goal.returns
returns c = push-below _ _ (words (goal.at.returns c).Else-not-shape_ok) _ c.shape_ok.ensures c.if-not-shape_ok.false-raw _ c.capacity-limit.ensures _ _ _ c.put.ensures c.if-put.false _ (sym c.in_ok-n.was ∙ c.held.ensures) _ c.capacity.ensures c.if-n-capacity.false
