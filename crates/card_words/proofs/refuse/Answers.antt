-- `card_words::refuse` meets its contract.
use Rattle.card_words.proofs.Out.{refused-short, refused-told}
use Rattle.card_words.proofs.refuse.Goals as goal

pub returns-then-out-lt-OUT : goal.returns-then-out-lt-OUT
returns-then-out-lt-OUT c = refused-short _ c.if-out-lt-OUT.true

pub returns : goal.returns
returns c = refused-told _ c.if-out-lt-OUT.false _ c.tell.ensures.1
