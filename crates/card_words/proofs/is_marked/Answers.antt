-- `card_words::is_marked` meets its contract.
use Rattle.card_words.proofs.Asked.{marked-is, unmarked}
use Rattle.card_words.proofs.is_marked.Goals as goal

pub returns-then-mark-lt1 : goal.returns-then-mark-lt1
returns-then-mark-lt1 c = unmarked _ c.if-mark-lt1.true

pub returns : goal.returns
returns c = marked-is _ c.if-mark-lt1.false
