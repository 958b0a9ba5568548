-- `bitmap::with` meets its contract.
use native.Mathlib.Omega.{arith}
use Rattle.bitmap.specs.Bits.{with-fits}
use Rattle.bitmap.proofs.with.Goals as goal

pub overflow_add-result : goal.overflow_add-result
overflow_add-result c = omega (arith, with-fits c.args.sets c.args.w c.args.k c.requires.0 c.ranges.w.fits c.requires.1)
