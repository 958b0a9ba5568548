-- `card_tree::card_tree_push` meets its contract.
use Rattle.card_words.proofs.Store.{store-done}
use Rattle.card_tree.proofs.card_tree_push.Goals as goal

pub returns : goal.returns
returns c = store-done _ _ _ _ c.number.ensures (rw c.element_of-x.ensures at c.push.ensures)
