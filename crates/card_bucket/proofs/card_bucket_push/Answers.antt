-- `card_bucket::card_bucket_push` meets its contract.
use Rattle.card_bucket.proofs.Calls.{bucket-done}
use Rattle.card_bucket.proofs.card_bucket_push.Goals as goal

pub returns : goal.returns
returns c = bucket-done _ _ _ _ _ c.number.ensures (rw c.element_of-e.ensures at c.push.ensures)
