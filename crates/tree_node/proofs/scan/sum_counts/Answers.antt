-- `tree_node::scan::sum_counts` meets its contract.
use Rattle.laws.specs.Prelude.{arith, rules}
use Rattle.tree_node.proofs.Scans.{sum-end, sum-next, sum_counts_to}
use Rattle.tree_node.proofs.scan.sum_counts.Goals as goal

pub loop-j-init : goal.loop-j-init
unfolding sum_counts_to
loop-j-init c = search rules

pub loop-j-preserved : goal.loop-j-preserved
loop-j-preserved c = (omega arith, sum-next _ _ _ _ _ _ (search rules) c.loop-j.invariant.1 c.slot_at.ensures)

pub returns : goal.returns
returns c = sum-end _ _ _ _ _ (omega arith) c.loop-j.invariant.1
