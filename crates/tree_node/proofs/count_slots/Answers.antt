-- `tree_node::count_slots` meets its contract.
use Rattle.laws.specs.Prelude.{◌*◌, ◌+◌, ◌∙◌, ap, arith, rules, ℕ}
use Rattle.tree_node.proofs.Steps.{capacity-above, counted-above, counted_next, room_next}
use Rattle.tree_node.specs.Room.{slots_counted}
use Rattle.tree_model.specs.Prelude.{room}
use Rattle.tree_node.proofs.count_slots.Goals as goal

pub loop-i-init : goal.loop-i-init
unfolding room slots_counted
loop-i-init c = search rules

pub loop-i-preserved : goal.loop-i-preserved
loop-i-preserved c = (ap (λ (n : ℕ). c.args.order * (n + 1)) c.loop-i.invariant.0 ∙ room_next c.args.order c.loop-i.i, counted_next _ _ _ c.loop-i.invariant.1 c.if-slots-gt-SLOT_LIMIT.false)

pub returns-then-slots-gt-SLOT_LIMIT : goal.returns-then-slots-gt-SLOT_LIMIT
returns-then-slots-gt-SLOT_LIMIT c = record {
  counts = capacity-above _ _ c.loop-i.i _ c.requires.0 (omega arith) c.if-slots-gt-SLOT_LIMIT.true c.loop-i.invariant.0;
  stops = counted-above _ _ c.loop-i.i _ (omega arith) c.if-slots-gt-SLOT_LIMIT.true c.loop-i.invariant.1;
}
