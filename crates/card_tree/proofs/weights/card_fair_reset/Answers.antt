-- `card_tree::weights::card_fair_reset` meets its contract.
use Rattle.card_tree.proofs.Fair.{fair-done}
use Rattle.card_tree.proofs.weights.card_fair_reset.Goals as goal

pub returns : goal.returns
returns c = fair-done _ _ _ _ _ c.number.ensures c.reset.ensures
