-- `tree_node::slot::write_slot` meets its contract.
use Rattle.tree_model.specs.Prelude.{write}
use Rattle.tree_node.proofs.slot.write_slot.Goals as goal

pub returns : goal.returns
unfolding write
returns c = rw (← c.write_element.ensures)
