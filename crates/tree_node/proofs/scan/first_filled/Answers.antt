-- `tree_node::scan::first_filled` meets its contract.
use Rattle.laws.specs.Prelude.{arith, rules}
use Rattle.tree_node.proofs.Leads.{filled-here, filled_next, filled_none}
use Rattle.tree_node.proofs.scan.first_filled.Goals as goal

pub returns-then-slot_at-ne0 : goal.returns-then-slot_at-ne0
returns-then-slot_at-ne0 c = filled-here _ _ _ _ _ (search rules) c.loop-j.invariant c.slot_at.ensures c.if-slot_at-ne0.true

pub loop-j-preserved : goal.loop-j-preserved
loop-j-preserved c = filled_next _ _ _ _ _ (search rules) c.loop-j.invariant c.slot_at.ensures c.if-slot_at-ne0.false

pub returns : goal.returns
returns c = filled_none _ _ _ _ (omega arith) c.loop-j.invariant
