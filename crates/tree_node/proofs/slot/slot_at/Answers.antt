-- `tree_node::slot::slot_at` meets its contract.
use Rattle.laws.specs.Prelude.{refl}
use Rattle.tree_model.proofs.Laws.{slot-path}
use Rattle.tree_model.specs.Prelude.{slot_of}
use Rattle.tree_node.proofs.slot.slot_at.Goals as goal

pub returns : goal.returns
unfolding slot_of
returns c = slot-path c.element_at-element.ensures refl
