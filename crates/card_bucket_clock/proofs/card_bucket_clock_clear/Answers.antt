use Rattle.card_bucket_clock.proofs.Told.{clear-short, clear_told, due-fits}
use Rattle.laws.specs.Prelude.{◌∙◌, length, not-false, not-true, sym}
use Rattle.card_bucket_clock.proofs.card_bucket_clock_clear.Goals as goal

pub returns-then-not-is_lent : goal.returns-then-not-is_lent
returns-then-not-is_lent c = clear-short c.args.storeys c.args.nodes c.args.bits.now c.args.words.now c.args.counts.now c.args.records.now _ c.is_lent.ensures (not-true c.is_lent.result c.if-not-is_lent.true-raw)

pub hand_back-requires-clause-few : goal.hand_back-requires-clause-few
hand_back-requires-clause-few c = (due-fits c.args.storeys (length c.args.records.now) c.has_run.result _ c.records_due-due.ensures (sym c.is_lent.ensures ∙ (not-false c.is_lent.result c.if-not-is_lent.false-raw))).0

pub hand_back-requires-clause-long : goal.hand_back-requires-clause-long
hand_back-requires-clause-long c = (due-fits c.args.storeys (length c.args.records.now) c.has_run.result _ c.records_due-due.ensures (sym c.is_lent.ensures ∙ (not-false c.is_lent.result c.if-not-is_lent.false-raw))).1

pub returns : goal.returns
returns c = clear_told c.args.storeys c.args.nodes c.args.bits.now c.args.words.now c.args.counts.now c.args.records.now _ c.is_lent.ensures (not-false c.is_lent.result c.if-not-is_lent.false-raw) _ c.fresh_records-none.ensures _ _ _ _ _ _ _ _ _ _ c.clear-c.ensures c.has_run.ensures c.records_due-due.ensures c.hand_back.ensures c.number.ensures
