-- `tree_node::scan::turn_or` meets its contract.
use Rattle.laws.specs.Prelude.{eq-eqb, ne_eqb}
use Rattle.tree_node.specs.Look.{turn_or}
use Rattle.tree_model.specs.Prelude.{is_empty}
use Rattle.tree_node.proofs.scan.turn_or.Goals as goal

pub returns-then-a-eq0 : goal.returns-then-a-eq0
unfolding turn_or is_empty
returns-then-a-eq0 c = rw (eq-eqb c.args.a.count 0 c.if-a-eq0.true)

pub returns : goal.returns
unfolding turn_or is_empty
returns c = rw (ne_eqb c.args.a.count 0 c.if-a-eq0.false) c.turn_of.ensures
