-- `bitmap::bit` meets its contract.
use borrow.Author.Rules.{rules}
use Rattle.bitmap.specs.Bits.{bit_at}
use Rattle.bitmap.proofs.bit.Goals as goal

pub returns : goal.returns
unfolding bit_at
returns c = search rules
