use Rattle.bucket_clock.proofs.Cycles.{cycled-bad, cycled-is, depth, ready}
use Rattle.laws.specs.Prelude.{not-false, not-true}
use Rattle.bucket_clock.proofs.cycle.Goals as goal

pub returns-then-not-is_lent : goal.returns-then-not-is_lent
returns-then-not-is_lent c = cycled-bad c.args.storeys c.args.n c.args.bits.now c.args.counts.now c.args.words.now c.is_lent.result c.is_lent.ensures (not-true c.is_lent.result c.if-not-is_lent.true-raw) _ _ _ _ _ c.left_as.ensures

pub queue_of-k-requires-clause-least : goal.queue_of-k-requires-clause-least
queue_of-k-requires-clause-least c = (depth c.args.storeys c.args.n c.args.bits.now c.args.counts.now c.args.words.now c.is_lent.result c.is_lent.ensures (not-false c.is_lent.result c.if-not-is_lent.false-raw)).0

pub queue_of-k-requires-clause-most : goal.queue_of-k-requires-clause-most
queue_of-k-requires-clause-most c = (depth c.args.storeys c.args.n c.args.bits.now c.args.counts.now c.args.words.now c.is_lent.result c.is_lent.ensures (not-false c.is_lent.result c.if-not-is_lent.false-raw)).1

pub cycle_shaped-requires : goal.cycle_shaped-requires
cycle_shaped-requires c = ready c.args.storeys c.args.n c.args.bits.now c.args.counts.now c.args.words.now c.is_lent.result c.is_lent.ensures (not-false c.is_lent.result c.if-not-is_lent.false-raw) c.queue_of-k.result c.queue_of-k.ensures

pub returns : goal.returns
returns c = cycled-is c.args.storeys c.args.n c.args.bits.now c.args.counts.now c.args.words.now c.is_lent.result c.is_lent.ensures (not-false c.is_lent.result c.if-not-is_lent.false-raw) _ _ _ _ c.queue_of-k.ensures c.cycle_shaped.ensures
