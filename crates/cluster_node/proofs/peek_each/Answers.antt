use Rattle.laws.specs.Prelude.{◌*◌, ◌+◌, arith}
use Rattle.cluster_model.specs.Prelude.{place_words}
use Rattle.cluster_node.proofs.Looks.{peek-here}
use Rattle.cluster_node.proofs.Children.{seen_low}
use Rattle.cluster_node.proofs.peek_each.Goals as goal

pub overflow_mul-rank : goal.overflow_mul-rank
overflow_mul-rank c = omega (arith, seen_low c.args.s.now (c.args.at + 2) c.args.k c.look_each-v.result (omega arith) c.look_each-v.ensures)

pub overflow_add-rank-2 : goal.overflow_add-rank-2
overflow_add-rank-2 c = omega (arith, seen_low c.args.s.now (c.args.at + 2) c.args.k c.look_each-v.result (omega arith) c.look_each-v.ensures)

pub offset_bounds-s-at : goal.offset_bounds-s-at
offset_bounds-s-at c = omega (arith, seen_low c.args.s.now (c.args.at + 2) c.args.k c.look_each-v.result (omega arith) c.look_each-v.ensures)

pub bounds-s-at : goal.bounds-s-at
bounds-s-at c = omega (arith, seen_low c.args.s.now (c.args.at + 2) c.args.k c.look_each-v.result (omega arith) c.look_each-v.ensures)

pub overflow_cast-rank : goal.overflow_cast-rank
overflow_cast-rank c = omega (arith, c.type_inv.s (c.args.at + 2 + c.look_each-v.result.low * place_words))

pub returns : goal.returns
returns c = peek-here _ _ _ _ _ _ c.look_each-v.ensures c.node_ok-fine.ensures
