-- `tree_node::scan::look_any` meets its contract.
use Rattle.tree_node.proofs.Leads.{low-found-first, low-found-here}
use Rattle.tree_node.proofs.scan.look_any.Goals as goal

pub returns-then-v-order : goal.returns-then-v-order
returns-then-v-order c =
    let f = low-found-first _ _ _ _ c.look_turns-v.ensures.led _ c.if-v-order.true (rw c.unwrap_or-first.ensures c.first_filled.ensures) in
    record { whole = c.look_turns-v.ensures.whole; place = f.0; within = f.1 }

pub returns-clause-place : goal.returns-clause-place
returns-clause-place c = (low-found-here _ _ _ _ c.look_turns-v.ensures.led c.look_turns-v.ensures.within c.if-v-order.false).0
