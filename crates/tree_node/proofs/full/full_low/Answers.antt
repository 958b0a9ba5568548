-- `tree_node::full::full_low` meets its contract.
use Rattle.laws.specs.Prelude.{rules}
use Rattle.tree_node.proofs.Winners.{low-full}
use Rattle.tree_node.specs.Full.{by_turn}
use Rattle.tree_node.proofs.full.full_low.Goals as goal

pub returns : goal.returns
returns c =
    let w = c.in_ok-v.ensures by_turn (λ a n p. search rules) in
    low-full _ _ _ _ (search rules) _ w.0 w.1
