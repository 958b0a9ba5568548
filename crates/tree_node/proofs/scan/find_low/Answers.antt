-- `tree_node::scan::find_low` meets its contract.
use Rattle.laws.specs.Prelude.{◌∙◌}
use Rattle.tree_node.proofs.Winners.{low-in-full, low-in-seen}
use Rattle.tree_node.proofs.scan.find_low.Goals as goal

pub returns-in-Some-clause-place : goal.returns-in-Some-clause-place
returns-in-Some-clause-place c = low-in-full _ _ _ _ _ c.in-Some.ensures

pub returns-clause-place : goal.returns-clause-place
returns-clause-place c = c.then_some.ensures ∙ low-in-seen _ _ _ _ _ _ c.look_any-v.ensures.whole c.look_any-v.ensures.place
