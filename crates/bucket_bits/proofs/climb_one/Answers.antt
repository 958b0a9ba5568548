-- `bucket_bits::climb_one` meets its contract.
use Rattle.bucket_bits.proofs.Up.{climbed-none, climbed-some}
use Rattle.bucket_bits.proofs.climb_one.Goals as goal

pub returns-then-c-bit : goal.returns-then-c-bit
returns-then-c-bit c = climbed-none _ _ _ _ _ _ _ _ c.without-left.ensures (c.word_or-word.ensures 0) c.bit.ensures c.if-c-bit.true

pub returns : goal.returns
returns c = climbed-some _ _ _ _ _ _ _ _ c.without-left.ensures (c.word_or-word.ensures 0) c.bit.ensures c.if-c-bit.false
