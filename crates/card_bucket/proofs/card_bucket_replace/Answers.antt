-- `card_bucket::card_bucket_replace` meets its contract.
use Rattle.card_bucket.proofs.Calls.{bucket-short, bucket-told}
use Rattle.card_bucket.proofs.card_bucket_replace.Goals as goal

pub returns-then-out-lt-OUT : goal.returns-then-out-lt-OUT
returns-then-out-lt-OUT c = bucket-short _ _ _ _ c.if-out-lt-OUT.true

pub returns : goal.returns
returns c = bucket-told _ _ _ _ _ _ _ _ _ c.if-out-lt-OUT.false (rw c.element_of-e.ensures at c.replace-answer.ensures) c.tell.ensures
