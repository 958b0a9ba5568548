-- `tree_node::scan::slot_ok` meets its contract.
use Rattle.laws.specs.Prelude.{add-one}
use Rattle.tree_model.specs.Prelude.{is_empty, slot_ok}
use Rattle.tree_node.proofs.scan.slot_ok.Goals as goal

pub returns : goal.returns
unfolding slot_ok is_empty
returns c = rw (add-one, ← c.is_blank.ensures)
