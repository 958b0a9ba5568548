-- `card_tree::card_tree_clear` meets its contract.
use Rattle.card_words.proofs.Store.{store-done}
use Rattle.card_tree.proofs.card_tree_clear.Goals as goal

pub returns : goal.returns
returns c = store-done _ _ _ _ c.number.ensures c.clear.ensures
