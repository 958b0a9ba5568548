-- `cluster_node::clear_place` meets its contract.
use Rattle.laws.specs.Prelude.{List, ◌∙◌, ap, set, write_element, ℕ}
use Rattle.cluster_model.specs.Prelude.{flag_at, flag_of, write_place}
use Rattle.cluster_node.proofs.clear_place.Goals as goal

pub returns : goal.returns
unfolding write_place flag_of
returns c = ap (λ (l : List ℕ). set l (flag_at c.args.i) 0) (c.write_element.ensures ∙ ap (write_element c.args.s.now c.args.i) c.no_element.ensures)
