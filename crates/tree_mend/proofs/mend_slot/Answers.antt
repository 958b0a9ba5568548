-- `tree_mend::mend_slot` meets its contract.
use Rattle.laws.specs.Prelude.{arith}
use Rattle.tree_mend.proofs.Mends.{slot-none, slot-settles, slot-skips}
use Rattle.tree_mend.proofs.mend_slot.Goals as goal

pub returns-then-a-eq0-clause-counts : goal.returns-then-a-eq0-clause-counts
returns-then-a-eq0-clause-counts c = (slot-none c.args.order c.args.t.pushed c.args.t.skipped c.args.a c.args.to.now c.if-a-eq0.true).0

pub returns-then-a-eq0-clause-words : goal.returns-then-a-eq0-clause-words
returns-then-a-eq0-clause-words c = (slot-none c.args.order c.args.t.pushed c.args.t.skipped c.args.a c.args.to.now c.if-a-eq0.true).1

pub returns-then-is_untagged-clause-counts : goal.returns-then-is_untagged-clause-counts
returns-then-is_untagged-clause-counts c = (slot-skips c.args.order c.args.t.pushed c.args.t.skipped c.args.a c.args.to.now c.if-a-eq0.false _ c.is_untagged.ensures c.if-is_untagged.true).0

pub returns-then-is_untagged-clause-words : goal.returns-then-is_untagged-clause-words
returns-then-is_untagged-clause-words c = (slot-skips c.args.order c.args.t.pushed c.args.t.skipped c.args.a c.args.to.now c.if-a-eq0.false _ c.is_untagged.ensures c.if-is_untagged.true).1

pub settle-requires : goal.settle-requires
settle-requires c = c.requires.settles

pub shape_of-to : goal.shape_of-to
shape_of-to c = c.settle.auto.to

pub returns-clause-counts : goal.returns-clause-counts
returns-clause-counts c = (slot-settles c.args.order c.args.t.pushed c.args.t.skipped c.args.a c.args.to.now c.if-a-eq0.false _ c.is_untagged.ensures c.if-is_untagged.false _ c.settle.ensures).0

pub returns-clause-words : goal.returns-clause-words
returns-clause-words c = (slot-settles c.args.order c.args.t.pushed c.args.t.skipped c.args.a c.args.to.now c.if-a-eq0.false _ c.is_untagged.ensures c.if-is_untagged.false _ c.settle.ensures).1

pub overflow_add-result : goal.overflow_add-result
overflow_add-result c = omega (arith, c.requires.skipped_in)

pub overflow_add-result-2 : goal.overflow_add-result-2
overflow_add-result-2 c = omega (arith, c.requires.pushed_in)
