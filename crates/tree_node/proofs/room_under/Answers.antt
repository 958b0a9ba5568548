-- `tree_node::room_under` meets its contract.
use Rattle.laws.specs.Prelude.{refl, rules}
use Rattle.tree_node.proofs.Under.{under_is}
use Rattle.tree_node.proofs.room_under.Goals as goal

pub returns-in-2 : goal.returns-in-2
returns-in-2 c = under_is _ _ _ _ (search rules) c.in-2.is c.saturating_sub-others.ensures

pub returns-in-4 : goal.returns-in-4
returns-in-4 c = under_is _ _ _ _ (search rules) c.in-4.is c.saturating_sub-others.ensures

pub returns-in-8 : goal.returns-in-8
returns-in-8 c = under_is _ _ _ _ (search rules) c.in-8.is c.saturating_sub-others.ensures

pub returns-in_default : goal.returns-in_default
returns-in_default c = under_is _ _ _ _ (search rules) refl c.saturating_sub-others.ensures
