-- `tree_node::scan::node_ok` meets its contract.
use Rattle.laws.specs.Prelude.{arith, rules}
use Rattle.tree_node.proofs.Scans.{every-next, every_to, node-ok-end}
use Rattle.tree_node.proofs.scan.node_ok.Goals as goal

pub loop-j-init : goal.loop-j-init
unfolding every_to
loop-j-init c = search rules

pub loop-j-preserved : goal.loop-j-preserved
loop-j-preserved c = every-next _ _ _ _ _ _ _ _ (search rules) c.loop-j.invariant c.slot_at.ensures c.slot_ok-ok.ensures

pub returns : goal.returns
returns c = node-ok-end _ _ _ _ _ _ (omega arith) c.loop-j.invariant
