-- `tree_node::full::two` meets its contract.
use Rattle.laws.specs.Prelude.{◌+◌, ◌≡◌, arith}
use Rattle.tree_node.proofs.Winners.{wins-to}
use Rattle.tree_node.proofs.full.two.Goals as goal

pub returns : goal.returns
returns g c = λ f k.
    let j = c.args.j in
    let end : j + 1 + 1 ≡ j + 2 = omega arith in
    wins-to _ _ _ _ _ _ _ end (c.winner_of.ensures f _ _ j (j + 1) (j + 1 + 1) (c.one-left.ensures f k) (c.one-right.ensures f k))
