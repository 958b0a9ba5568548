-- `tree_mend::node_whole` and `tree_mend::slot_whole` meet their contracts.
use Rattle.tree_mend.proofs.Descent.{node-begins, node-ends, node-fits, node-lies, node-none, place-failed, place-passed, slot-in, slot-inside, slot-lies, slot-off, slot-on}
use Rattle.laws.specs.Prelude.{arith}
use native.Mathlib.Nat.{pos_of_ne-zero}
use Rattle.tree_mend.proofs.+node_whole_slot_whole.Goals as goal

pub node_whole-returns-then-left-eq0 : goal.node_whole-returns-then-left-eq0
node_whole-returns-then-left-eq0 t c = node-none _ _ _ _ _ c.if-left-eq0.true

pub node_whole-overflow_mul-first : goal.node_whole-overflow_mul-first
node_whole-overflow_mul-first t c = omega (arith, node-fits c.args.order c.args.left c.args.node c.args.s.now c.requires c.if-left-eq0.false)

pub node_whole-overflow_add-p-end : goal.node_whole-overflow_add-p-end
node_whole-overflow_add-p-end t c = omega (arith, node-fits c.args.order c.args.left c.args.node c.args.s.now c.requires c.if-left-eq0.false)

pub node_whole-loop-p-init : goal.node_whole-loop-p-init
node_whole-loop-p-init t c = node-begins _ _ _ _ _ c.if-left-eq0.false

pub node_whole-slot_whole-requires : goal.node_whole-slot_whole-requires
node_whole-slot_whole-requires t c =
    (omega (arith, c.decreases, pos_of_ne-zero c.if-left-eq0.false), slot-lies _ _ _ _ _ c.requires c.if-left-eq0.false c.loop-p-test.true)

pub node_whole-returns-then-not-slot_whole : goal.node_whole-returns-then-not-slot_whole
node_whole-returns-then-not-slot_whole t c = place-failed _ _ _ _ _ _ _ c.loop-p.invariant c.loop-p-test.true _ c.slot_whole.ensures c.if-not-slot_whole.true-raw

pub node_whole-loop-p-preserved : goal.node_whole-loop-p-preserved
node_whole-loop-p-preserved t c = place-passed _ _ _ _ _ _ _ c.loop-p.invariant c.loop-p-test.true _ c.slot_whole.ensures c.if-not-slot_whole.false-raw

pub node_whole-returns : goal.node_whole-returns
node_whole-returns t c = node-ends _ _ _ _ _ _ _ c.loop-p.invariant c.loop-p-test.false

pub slot_whole-slot_broken-requires : goal.slot_whole-slot_broken-requires
slot_whole-slot_broken-requires t c = slot-in _ _ _ _ c.requires

pub slot_whole-returns-then-slot_broken : goal.slot_whole-returns-then-slot_broken
slot_whole-returns-then-slot_broken t c = slot-off _ _ _ _ _ _ c.slot_broken.ensures c.if-slot_broken.true

pub slot_whole-rank_at-rank-requires : goal.slot_whole-rank_at-rank-requires
slot_whole-rank_at-rank-requires t c = omega (arith, (slot-inside c.args.order c.args.left c.args.p c.args.s.now c.requires).1)

pub slot_whole-overflow_add-p : goal.slot_whole-overflow_add-p
slot_whole-overflow_add-p t c = omega (arith, (slot-inside c.args.order c.args.left c.args.p c.args.s.now c.requires).0)

pub slot_whole-node_whole-requires : goal.slot_whole-node_whole-requires
slot_whole-node_whole-requires t c = (omega (arith, c.decreases), node-lies _ _ _ _ c.requires)

pub slot_whole-returns : goal.slot_whole-returns
slot_whole-returns t c = slot-on _ _ _ _ _ _ c.slot_broken.ensures c.if-slot_broken.false _ c.rank_at-rank.ensures _ c.node_whole.ensures
