-- `card_packed::card_packed_held` meets its contract.
use Rattle.card_words.proofs.Out.{count-short, count-told}
use Rattle.card_packed.proofs.card_packed_held.Goals as goal

pub returns-then-out-lt1 : goal.returns-then-out-lt1
returns-then-out-lt1 c = count-short _ _ c.if-out-lt1.true

pub returns : goal.returns
returns c = count-told _ _ _ _ _ c.if-out-lt1.false c.held-count.ensures c.tell_count.ensures
