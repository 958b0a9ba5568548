use Rattle.bucket_clock.proofs.Cycles.{few, lent_is, lent-shallow}
use Rattle.bucket_step.proofs.Depths.{deep_of}
use Rattle.laws.specs.Prelude.{◌∙◌, arith, not-false, not-true, sym}
use Rattle.bucket_clock.proofs.is_lent.Goals as goal

pub returns-then-not-is_deep : goal.returns-then-not-is_deep
returns-then-not-is_deep c = lent-shallow c.args.storeys c.args.n c.args.bits.now c.args.counts.now c.args.words.now (sym c.is_deep.ensures ∙ not-true c.is_deep.result c.if-not-is_deep.true-raw)

pub queue_of-k-requires-clause-least : goal.queue_of-k-requires-clause-least
queue_of-k-requires-clause-least c = (deep_of c.args.storeys (sym c.is_deep.ensures ∙ not-false c.is_deep.result c.if-not-is_deep.false-raw)).0

pub queue_of-k-requires-clause-most : goal.queue_of-k-requires-clause-most
queue_of-k-requires-clause-most c = (deep_of c.args.storeys (sym c.is_deep.ensures ∙ not-false c.is_deep.result c.if-not-is_deep.false-raw)).1

pub is_shaped-requires : goal.is_shaped-requires
is_shaped-requires c = omega (arith, few c.args.storeys c.args.n c.queue_of-k.result (deep_of c.args.storeys (sym c.is_deep.ensures ∙ not-false c.is_deep.result c.if-not-is_deep.false-raw)).0 (deep_of c.args.storeys (sym c.is_deep.ensures ∙ not-false c.is_deep.result c.if-not-is_deep.false-raw)).1 c.queue_of-k.ensures)

pub overflow_add-result : goal.overflow_add-result
overflow_add-result c = omega (arith, few c.args.storeys c.args.n c.queue_of-k.result (deep_of c.args.storeys (sym c.is_deep.ensures ∙ not-false c.is_deep.result c.if-not-is_deep.false-raw)).0 (deep_of c.args.storeys (sym c.is_deep.ensures ∙ not-false c.is_deep.result c.if-not-is_deep.false-raw)).1 c.queue_of-k.ensures)

pub overflow_mul-result : goal.overflow_mul-result
overflow_mul-result c = omega (arith, few c.args.storeys c.args.n c.queue_of-k.result (deep_of c.args.storeys (sym c.is_deep.ensures ∙ not-false c.is_deep.result c.if-not-is_deep.false-raw)).0 (deep_of c.args.storeys (sym c.is_deep.ensures ∙ not-false c.is_deep.result c.if-not-is_deep.false-raw)).1 c.queue_of-k.ensures)

pub returns : goal.returns
returns c = lent_is c.args.storeys c.args.n c.args.bits.now c.args.counts.now c.args.words.now _ _ c.queue_of-k.ensures c.is_shaped.ensures
