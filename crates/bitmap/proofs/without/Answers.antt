-- `bitmap::without` meets its contract.
use Rattle.bitmap.specs.Bits.{without-fits}
use Rattle.bitmap.proofs.without.Goals as goal

pub overflow_sub-result : goal.overflow_sub-result
overflow_sub-result c = without-fits c.args.clears c.args.w c.args.k c.requires.0 c.requires.1
