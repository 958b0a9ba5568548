-- `tree_node::count_slots` meets its contract.
use Rattle.laws.specs.Prelude.{◌≡◌}
use Rattle.tree_node.specs.Room.{slots_counted}
use Rattle.tree_model.specs.Prelude.{room}
use Rattle.tree_node.proofs.count_slots.Given as goal

abbrev pub invariant-loop-i : goal.invariant-loop-i
invariant-loop-i l = (l.slots ≡ room l.order l.i) × (l.slots ≡ slots_counted l.order l.i)
