-- `card_packed::card_packed_clear` meets its contract.
use Rattle.card_words.proofs.Store.{store-done}
use Rattle.card_packed.proofs.card_packed_clear.Goals as goal

pub returns : goal.returns
returns c = store-done _ _ _ _ c.number.ensures c.clear.ensures
