use Rattle.card_bucket_clock.proofs.Told.{held-short, held-told}
use Rattle.card_bucket_clock.proofs.card_bucket_clock_held.Goals as goal

pub returns-then-out-lt1 : goal.returns-then-out-lt1
returns-then-out-lt1 c = held-short c.args.storeys c.args.nodes c.args.bits.now c.args.words.now c.args.counts.now c.args.out.now c.if-out-lt1.true

pub returns : goal.returns
returns c = held-told c.args.storeys c.args.nodes c.args.bits.now c.args.words.now c.args.counts.now c.args.out.now _ _ _ c.if-out-lt1.false c.held-count.ensures c.tell_count.ensures
