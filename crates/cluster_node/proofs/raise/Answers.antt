use Rattle.cluster_node.proofs.Looks.{side-le, word-le, raise-is}
use Rattle.laws.specs.Prelude.{arith}
use Rattle.cluster_node.proofs.raise.Goals as goal

pub overflow_add-s : goal.overflow_add-s
overflow_add-s c = omega (arith, word-le c.args.right c.choose-count.result c.args.l c.args.r 5460 c.choose-count.ensures c.requires.1 c.requires.2)

pub overflow_add-s-2 : goal.overflow_add-s-2
overflow_add-s-2 c = omega (arith, side-le c.args.right c.choose-side.result c.choose-side.ensures)

pub offset_bounds-s-at : goal.offset_bounds-s-at
offset_bounds-s-at c = omega (arith, side-le c.args.right c.choose-side.result c.choose-side.ensures)

pub bounds-s-at : goal.bounds-s-at
bounds-s-at c = omega (arith, side-le c.args.right c.choose-side.result c.choose-side.ensures)

pub returns : goal.returns
returns c = raise-is _ _ _ _ _ _ _ c.choose-side.ensures c.choose-count.ensures
