use Rattle.bucket_clock_step.proofs.Storeys.{after_is}
use Rattle.bucket_clock_step.proofs.storey.put_after_ok.Goals as goal

pub returns : goal.returns
returns c = after_is c.args.base c.args.words c.args.way c.lowest-low.result c.args.bits.now c.args.counts.now c.requires.falls c.lowest-low.ensures c.requires.floored _ _ c.requires.place_in _ _ _ _ c.without-left.ensures (c.word_or-own.ensures 0) (c.word_or-c.ensures 0) c.bit-on.ensures
