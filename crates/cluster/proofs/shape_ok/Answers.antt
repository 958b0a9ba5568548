use Rattle.cluster.proofs.Shapes.{nodes-counted, shape-low, shape-high, shape-none, shape-above, shape-rest}
use Rattle.laws.specs.Prelude.{arith, mul-le-mul_right}
use Rattle.cluster.proofs.shape_ok.Goals as goal
use Rattle.cluster.proofs.shape_ok.Goals.{then-k-lt2-via-then-k-lt2, then-k-lt2-via-else-k-lt2+then-k-gt16, then-k-lt2-via-else-k-lt2+else-k-gt16+then-levels-lt1}

pub returns-then-k-lt2 : goal.returns-then-k-lt2
returns-then-k-lt2 c = elim c.then-k-lt2.branch [
  | then-k-lt2-via-then-k-lt2 w ↦ shape-low _ _ _ w.if-k-lt2.true
  | then-k-lt2-via-else-k-lt2+then-k-gt16 w ↦ shape-high _ _ _ w.if-k-gt16.true w.if-k-lt2.false
  | then-k-lt2-via-else-k-lt2+else-k-gt16+then-levels-lt1 w ↦ shape-none _ _ _ w.if-k-lt2.false w.if-k-gt16.false w.if-levels-lt1.true
]

pub returns-then-n-gt-PLACE_LIMIT : goal.returns-then-n-gt-PLACE_LIMIT
returns-then-n-gt-PLACE_LIMIT c = shape-above _ _ _ c.if-k-lt2.false c.if-k-gt16.false c.if-levels-lt1.false _ (nodes-counted _ _ c.nodes-n.ensures) c.if-n-gt-PLACE_LIMIT.true

pub overflow_mul-result : goal.overflow_mul-result
overflow_mul-result c = omega (arith, mul-le-mul_right c.nodes-n.result c.if-k-gt16.false, c.if-n-gt-PLACE_LIMIT.false)

pub overflow_mul-result-3 : goal.overflow_mul-result-3
overflow_mul-result-3 c = omega (arith, mul-le-mul_right c.nodes-n.result c.if-k-gt16.false, c.if-n-gt-PLACE_LIMIT.false)

pub returns : goal.returns
returns c = shape-rest _ _ _ c.if-k-lt2.false c.if-k-gt16.false c.if-levels-lt1.false _ (nodes-counted _ _ c.nodes-n.ensures) c.if-n-gt-PLACE_LIMIT.false
