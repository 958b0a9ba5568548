-- `card_tree::card_tree_replace` meets its contract.
use Rattle.card_words.proofs.Store.{store-short, store_told}
use Rattle.card_tree.proofs.card_tree_replace.Goals as goal

pub returns-then-out-lt-OUT : goal.returns-then-out-lt-OUT
returns-then-out-lt-OUT c = store-short _ _ _ c.if-out-lt-OUT.true

pub returns : goal.returns
returns c = store_told _ _ _ _ _ _ _ c.if-out-lt-OUT.false (rw c.element_of-x.ensures at c.replace-answer.ensures) c.tell.ensures
