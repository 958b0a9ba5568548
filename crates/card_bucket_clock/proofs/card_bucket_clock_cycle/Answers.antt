use Rattle.card_bucket_clock.proofs.Told.{cycle-bad, cycle-short, cycle-told, due-fits, lent}
use Rattle.laws.specs.Prelude.{◌&&◌}
use Rattle.laws.specs.Prelude.{length, not-false, not-true, leb}
use Rattle.card_bucket_clock.proofs.card_bucket_clock_cycle.Goals as goal

pub returns-then-out-lt-LEAVES : goal.returns-then-out-lt-LEAVES
returns-then-out-lt-LEAVES c = cycle-short c.args.storeys c.args.nodes c.args.bits.now c.args.words.now c.args.counts.now c.args.records.now c.args.request c.args.rank c.args.tag c.args.length c.args.out.now c.if-out-lt-LEAVES.true

pub returns-then-not-read-request : goal.returns-then-not-read-request
returns-then-not-read-request c = cycle-bad c.args.storeys c.args.nodes c.args.bits.now c.args.words.now c.args.counts.now c.args.records.now c.args.request c.args.rank c.args.tag c.args.length c.args.out.now c.if-out-lt-LEAVES.false _ c.load-read.ensures _ (not-true (c.load-read.result.ok && leb c.args.request 3) c.if-not-read-request.true-raw) c.tell_leaves.ensures

pub hand_back-requires-clause-few : goal.hand_back-requires-clause-few
hand_back-requires-clause-few c = (due-fits c.args.storeys (length c.args.records.now) c.has_run.result _ c.records_due-due.ensures (lent c.args.storeys c.args.nodes c.args.bits.now c.args.words.now c.args.counts.now c.args.records.now c.args.request c.args.rank c.args.tag c.args.length c.args.out.now c.if-out-lt-LEAVES.false _ c.load-read.ensures (not-false (c.load-read.result.ok && leb c.args.request 3) c.if-not-read-request.false-raw))).0

pub hand_back-requires-clause-long : goal.hand_back-requires-clause-long
hand_back-requires-clause-long c = (due-fits c.args.storeys (length c.args.records.now) c.has_run.result _ c.records_due-due.ensures (lent c.args.storeys c.args.nodes c.args.bits.now c.args.words.now c.args.counts.now c.args.records.now c.args.request c.args.rank c.args.tag c.args.length c.args.out.now c.if-out-lt-LEAVES.false _ c.load-read.ensures (not-false (c.load-read.result.ok && leb c.args.request 3) c.if-not-read-request.false-raw))).1

pub returns : goal.returns
returns c = cycle-told c.args.storeys c.args.nodes c.args.bits.now c.args.words.now c.args.counts.now c.args.records.now c.args.request c.args.rank c.args.tag c.args.length c.args.out.now c.if-out-lt-LEAVES.false _ c.load-read.ensures (not-false (c.load-read.result.ok && leb c.args.request 3) c.if-not-read-request.false-raw) _ c.request_of-q.ensures _ _ _ _ _ _ _ _ _ _ _ c.cycle-c.ensures c.has_run.ensures c.records_due-due.ensures c.hand_back.ensures c.number.ensures c.tell_leaves-2.ensures
