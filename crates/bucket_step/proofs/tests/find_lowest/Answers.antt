-- `bucket_step::tests::find_lowest` meets its contract.
use Rattle.bucket_step.proofs.Read.{found-fit, found-nodeless, found-shut, found-unfit}
use Rattle.bucket_step.proofs.tests.find_lowest.Goals as goal

pub returns-in_err-rank : goal.returns-in_err-rank
returns-in_err-rank c = rw c.from_residual.ensures (found-shut _ _ _ c.requires c.in_err-rank.ensures)

pub returns-then-not-names_node : goal.returns-then-not-names_node
returns-then-not-names_node c = found-nodeless _ _ _ c.requires _ c.in_ok-rank.ensures _ _ _ _ c.head_of-head.ensures c.tail_of-tail.ensures c.names_node.ensures c.names_node-2.ensures c.if-not-names_node.true

pub returns-then-not-ends_fit : goal.returns-then-not-ends_fit
returns-then-not-ends_fit c = found-unfit _ _ _ c.requires _ c.in_ok-rank.ensures _ _ _ _ c.head_of-head.ensures c.tail_of-tail.ensures c.names_node.ensures c.names_node-2.ensures c.if-not-names_node.false _ _ c.next_of-next.ensures c.ends_fit.ensures c.if-not-ends_fit.true

pub returns : goal.returns
returns c = found-fit _ _ _ c.requires _ c.in_ok-rank.ensures _ _ _ _ c.head_of-head.ensures c.tail_of-tail.ensures c.names_node.ensures c.names_node-2.ensures c.if-not-names_node.false _ _ c.next_of-next.ensures c.ends_fit.ensures c.if-not-ends_fit.false
