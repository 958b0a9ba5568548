use Rattle.bucket_clock.proofs.Cycles.{depth, held-bad-shape, held-told, held-torn, ready, ready-fits}
use Rattle.laws.specs.Prelude.{not-false, not-true}
use Rattle.bucket_clock.proofs.held.Goals as goal

pub returns-then-not-is_lent : goal.returns-then-not-is_lent
returns-then-not-is_lent c = held-bad-shape c.args.storeys c.args.n c.args.bits.now c.args.counts.now c.args.words.now c.is_lent.result c.is_lent.ensures (not-true c.is_lent.result c.if-not-is_lent.true-raw)

pub queue_of-k-requires-clause-least : goal.queue_of-k-requires-clause-least
queue_of-k-requires-clause-least c = (depth c.args.storeys c.args.n c.args.bits.now c.args.counts.now c.args.words.now c.is_lent.result c.is_lent.ensures (not-false c.is_lent.result c.if-not-is_lent.false-raw)).0

pub queue_of-k-requires-clause-most : goal.queue_of-k-requires-clause-most
queue_of-k-requires-clause-most c = (depth c.args.storeys c.args.n c.args.bits.now c.args.counts.now c.args.words.now c.is_lent.result c.is_lent.ensures (not-false c.is_lent.result c.if-not-is_lent.false-raw)).1

pub held_count-held-requires : goal.held_count-held-requires
held_count-held-requires c = ready-fits _ _ _ _ (ready c.args.storeys c.args.n c.args.bits.now c.args.counts.now c.args.words.now c.is_lent.result c.is_lent.ensures (not-false c.is_lent.result c.if-not-is_lent.false-raw) c.queue_of-k.result c.queue_of-k.ensures)

pub returns-then-k-held : goal.returns-then-k-held
returns-then-k-held c = held-torn c.args.storeys c.args.n c.args.bits.now c.args.counts.now c.args.words.now c.is_lent.result c.is_lent.ensures (not-false c.is_lent.result c.if-not-is_lent.false-raw) c.queue_of-k.result _ c.queue_of-k.ensures c.held_count-held.ensures c.if-k-held.true

pub returns : goal.returns
returns c = held-told c.args.storeys c.args.n c.args.bits.now c.args.counts.now c.args.words.now c.is_lent.result c.is_lent.ensures (not-false c.is_lent.result c.if-not-is_lent.false-raw) c.queue_of-k.result _ c.queue_of-k.ensures c.held_count-held.ensures c.if-k-held.false
