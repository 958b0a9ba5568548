-- `tree_node::full::four` meets its contract.
use Rattle.laws.specs.Prelude.{◌+◌, ◌≡◌, arith}
use Rattle.tree_node.proofs.Winners.{wins-to}
use Rattle.tree_node.proofs.full.four.Goals as goal

pub returns : goal.returns
returns g c = λ f k.
    let j = c.args.j in
    let end : j + 2 + 2 ≡ j + 4 = omega arith in
    wins-to _ _ _ _ _ _ _ end (c.winner_of.ensures f _ _ j (j + 2) (j + 2 + 2) (c.two-left.ensures f k) (c.two-right.ensures f k))
