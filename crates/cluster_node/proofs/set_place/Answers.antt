-- `cluster_node::set_place` meets its contract.
use Rattle.cluster_model.specs.Prelude.{flag_of, write_place}
use Rattle.cluster_node.proofs.set_place.Goals as goal

pub returns : goal.returns
unfolding write_place flag_of
returns c = rw (← c.write_element.ensures)
