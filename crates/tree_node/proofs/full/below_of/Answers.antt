-- `tree_node::full::below_of` meets its contract.
use Rattle.laws.specs.Prelude.{eq-eqb, ne_eqb, refl}
use Rattle.tree_model.specs.Prelude.{is_empty}
use Rattle.tree_node.specs.Full.{below}
use Rattle.tree_node.proofs.full.below_of.Goals as goal

pub returns-then-a-eq0 : goal.returns-then-a-eq0
unfolding below is_empty
returns-then-a-eq0 c = rw (eq-eqb c.args.a.count 0 c.if-a-eq0.true) refl

pub returns : goal.returns
unfolding below is_empty
returns c = rw (ne_eqb c.args.a.count 0 c.if-a-eq0.false) refl
