-- `bitmap::lowest` meets its contract.
use Rattle.bitmap.specs.Bits.{found}
use Rattle.bitmap.proofs.lowest.Goals as goal

pub returns : goal.returns
returns c = found c.args.w c.ranges.w.fits
