-- `tree_mend::mend_slots` meets its contract.
use Rattle.laws.specs.Prelude.{arith}
use Rattle.tree_mend.proofs.Mends.{mend-asks, mend-begins, mend-ends, mend-goes, Mending}
use Rattle.tree_mend.proofs.mend_slots.Goals as goal
use Rattle.tree_mend.proofs.mend_slots.Goals.{At-loop-i}

-- places on the way, each from a later one

-- the shape is one that the store has
mending : (c : At-loop-i) → Mending c.args.order c.requires.below c.args.from.now c.args.to.now c.args.slots c.loop-i.to c.loop-i.t.pushed c.loop-i.t.skipped c.loop-i.i
mending c = c.loop-i.invariant c.requires.below c.requires.cleared c.requires.slots

pub power_of-power-requires : goal.power_of-power-requires
power_of-power-requires c = c.requires.cleared.shape.order

pub loop-i-init : goal.loop-i-init
loop-i-init c = λ k cleared slots. mend-begins _ k _ _ _ cleared

pub slot_at-requires : goal.slot_at-requires
slot_at-requires c = omega (arith, c.requires.lies.words, c.loop-i-test.true)

pub mend_slot-t-requires : goal.mend_slot-t-requires
mend_slot-t-requires c = let g = mending (goal.at.mend_slot-t-requires c).At-loop-i in record { settles = mend-asks _ _ _ _ _ _ _ _ _ g c.loop-i-test.true c.requires.slots _ c.power_of-power.ensures; pushed_in = omega (arith, g.few, g.upto, c.requires.lies.limit); skipped_in = omega (arith, g.few, g.upto, c.requires.lies.limit) }

pub loop-i-preserved : goal.loop-i-preserved
loop-i-preserved c =
    λ k cleared slots.
    mend-goes _ k _ _ _ _ _ _ _ (c.loop-i.invariant k cleared slots) c.loop-i-test.true slots _ c.slot_at.ensures _ _ _ (c.mend_slot-t.ensures.counts, c.mend_slot-t.ensures.words) c.mend_slot-t.auto.to

pub shape_of-to : goal.shape_of-to
shape_of-to c = (mending (goal.at.shape_of-to c).At-loop-i).same

pub returns : goal.returns
returns c = record { skipped = (mend-ends _ _ _ _ _ _ _ _ _ (mending (goal.at.returns c).At-loop-i) c.loop-i-test.false).0; words = λ k cleared slots. (mend-ends _ k _ _ _ _ _ _ _ (c.loop-i.invariant k cleared slots) c.loop-i-test.false).1 }
