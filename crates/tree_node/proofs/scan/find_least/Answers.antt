-- `tree_node::scan::find_least` meets its contract.
use Rattle.laws.specs.Prelude.{◌∙◌, rules}
use Rattle.tree_node.proofs.Winners.{least-full, least-in-seen}
use Rattle.tree_node.specs.Full.{by_count}
use Rattle.tree_node.proofs.scan.find_least.Goals as goal

pub returns-in-Some : goal.returns-in-Some
returns-in-Some c =
    let w = c.in-Some.ensures by_count (λ a n p. search rules) in
    least-full _ _ _ _ (search rules) _ w.0 w.1

pub returns : goal.returns
returns c = c.then_some.ensures ∙ least-in-seen _ _ _ _ _ _ c.look_least-v.ensures.whole c.look_least-v.ensures.place
