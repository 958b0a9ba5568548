use Rattle.cluster_node.proofs.Looks.{side-le, sink-is}
use Rattle.laws.specs.Prelude.{arith}
use Rattle.cluster_node.proofs.sink.Goals as goal

pub overflow_add-s : goal.overflow_add-s
overflow_add-s c = omega (arith, side-le c.args.right c.choose-side.result c.choose-side.ensures)

pub offset_bounds-s-at : goal.offset_bounds-s-at
offset_bounds-s-at c = omega (arith, side-le c.args.right c.choose-side.result c.choose-side.ensures)

pub bounds-s-at : goal.bounds-s-at
bounds-s-at c = omega (arith, side-le c.args.right c.choose-side.result c.choose-side.ensures)

pub returns : goal.returns
returns c = sink-is _ _ _ _ _ _ _ _ c.choose-side.ensures c.choose-count.ensures c.saturating_sub.ensures
