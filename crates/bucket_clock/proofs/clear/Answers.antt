use Rattle.bucket_clock.proofs.Cycles.{cleared-bad, cleared-is, depth, few, ready, ready-fits}
use Rattle.std.proofs.Common.{◌++◌, drop, replicate, rules}
use Rattle.bucket_model.proofs.Laws.{fill-zeros}
use Rattle.laws.specs.Prelude.{◌*◌, ◌+◌, ◌∙◌, ◌≡◌, List, ap, arith, ℕ}
use Rattle.bucket_clock.proofs.clear.Goals as goal

pub returns-then-not-is_lent : goal.returns-then-not-is_lent
returns-then-not-is_lent c = cleared-bad c.args.storeys c.args.n c.args.bits.now c.args.counts.now c.args.words.now c.is_lent.result c.is_lent.ensures c.if-not-is_lent.true _ _ _ _ c.left_as.ensures

pub queue_of-k-requires-clause-least : goal.queue_of-k-requires-clause-least
queue_of-k-requires-clause-least c = (depth c.args.storeys c.args.n c.args.bits.now c.args.counts.now c.args.words.now c.is_lent.result c.is_lent.ensures c.if-not-is_lent.false).0

pub queue_of-k-requires-clause-most : goal.queue_of-k-requires-clause-most
queue_of-k-requires-clause-most c = (depth c.args.storeys c.args.n c.args.bits.now c.args.counts.now c.args.words.now c.is_lent.result c.is_lent.ensures c.if-not-is_lent.false).1

pub overflow_add-k : goal.overflow_add-k
overflow_add-k c = omega (arith, few c.args.storeys c.args.n c.queue_of-k.result (depth c.args.storeys c.args.n c.args.bits.now c.args.counts.now c.args.words.now c.is_lent.result c.is_lent.ensures c.if-not-is_lent.false).0 (depth c.args.storeys c.args.n c.args.bits.now c.args.counts.now c.args.words.now c.is_lent.result c.is_lent.ensures c.if-not-is_lent.false).1 c.queue_of-k.ensures)

pub wipe-requires : goal.wipe-requires
wipe-requires c = (ready c.args.storeys c.args.n c.args.bits.now c.args.counts.now c.args.words.now c.is_lent.result c.is_lent.ensures c.if-not-is_lent.false c.queue_of-k.result c.queue_of-k.ensures).bits

pub overflow_add-k-2 : goal.overflow_add-k-2
overflow_add-k-2 c = omega (arith, few c.args.storeys c.args.n c.queue_of-k.result (depth c.args.storeys c.args.n c.args.bits.now c.args.counts.now c.args.words.now c.is_lent.result c.is_lent.ensures c.if-not-is_lent.false).0 (depth c.args.storeys c.args.n c.args.bits.now c.args.counts.now c.args.words.now c.is_lent.result c.is_lent.ensures c.if-not-is_lent.false).1 c.queue_of-k.ensures)

pub overflow_mul-k : goal.overflow_mul-k
overflow_mul-k c = omega (arith, few c.args.storeys c.args.n c.queue_of-k.result (depth c.args.storeys c.args.n c.args.bits.now c.args.counts.now c.args.words.now c.is_lent.result c.is_lent.ensures c.if-not-is_lent.false).0 (depth c.args.storeys c.args.n c.args.bits.now c.args.counts.now c.args.words.now c.is_lent.result c.is_lent.ensures c.if-not-is_lent.false).1 c.queue_of-k.ensures)

pub wipe_words-requires : goal.wipe_words-requires
wipe_words-requires c = record { fits = ready-fits _ _ _ _ (ready c.args.storeys c.args.n c.args.bits.now c.args.counts.now c.args.words.now c.is_lent.result c.is_lent.ensures c.if-not-is_lent.false c.queue_of-k.result c.queue_of-k.ensures); pool_in = (ready c.args.storeys c.args.n c.args.bits.now c.args.counts.now c.args.words.now c.is_lent.result c.is_lent.ensures c.if-not-is_lent.false c.queue_of-k.result c.queue_of-k.ensures).nodes }

pub returns : goal.returns
returns c =
    let lent = ready c.args.storeys c.args.n c.args.bits.now c.args.counts.now c.args.words.now c.is_lent.result c.is_lent.ensures c.if-not-is_lent.false c.queue_of-k.result c.queue_of-k.ensures in
    let e : c.fill.new.self ≡ replicate (64 * (c.queue_of-k.result.bits + c.queue_of-k.result.tower)) 0 = search rules in
    let wiped = ap (λ (x : List ℕ). x ++ drop (64 * (c.queue_of-k.result.bits + c.queue_of-k.result.tower)) c.args.counts.now) e ∙ fill-zeros _ _ lent.counts in
    cleared-is c.args.storeys c.args.n c.args.bits.now c.args.counts.now c.args.words.now c.is_lent.result c.is_lent.ensures c.if-not-is_lent.false _ _ _ _ _ _ c.queue_of-k.ensures c.wipe.ensures wiped c.wipe_words.ensures c.fresh_records-none.ensures
