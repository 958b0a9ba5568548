-- `card_tree::weights::card_fair_push` meets its contract.
use Rattle.card_tree.proofs.Fair.{fair-done}
use Rattle.card_tree.proofs.weights.card_fair_push.Goals as goal

pub returns : goal.returns
returns c = fair-done _ _ _ _ _ c.number.ensures c.push.ensures
