-- `tree_node::full::eight` meets its contract.
use Rattle.tree_node.proofs.full.eight.Goals as goal

pub returns : goal.returns
returns g c = λ f k. c.winner_of.ensures f _ _ 0 4 8 (c.four-left.ensures f k) (c.four-right.ensures f k)
