-- `card_words::is_asked` meets its contract.
use Rattle.card_words.proofs.Asked.{asked_is}
use Rattle.card_words.proofs.is_asked.Goals as goal

pub returns : goal.returns
returns c = asked_is _ _ _ c.is_marked.ensures
