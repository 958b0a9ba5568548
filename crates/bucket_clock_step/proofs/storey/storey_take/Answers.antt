use Rattle.bucket_clock_step.proofs.Storeys.{took, way-is, way<}
use Rattle.laws.specs.Prelude.{refl}
use Rattle.bucket_clock_step.proofs.storey.storey_take.Goals as goal

pub returns : goal.returns
returns c = (took c.args.base c.args.words c.args.way c.lowest-low.result c.args.bits.now c.args.counts.now c.requires.falls c.lowest-low.ensures _ _ refl c.without-bare.ensures, way-is c.args.base c.args.words c.args.way c.lowest-low.result c.args.bits.now c.args.counts.now c.requires.falls c.lowest-low.ensures, way< c.args.base c.args.words c.args.way c.lowest-low.result c.args.bits.now c.args.counts.now c.requires.falls c.lowest-low.ensures)
