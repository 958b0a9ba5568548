-- `cluster_node::see` meets its contract.
use Rattle.cluster_node.proofs.Looks.{see-is}
use Rattle.cluster_node.proofs.see.Goals as goal

pub returns : goal.returns
returns c = see-is _ _ _ _ _ _ _ _ _ _ _ _ c.element_at-x.ensures c.is_blank-blank.ensures c.lower_than-lower.ensures c.high_as-higher.ensures c.choose-count.ensures c.choose-free.ensures c.choose-low.ensures c.choose-high.ensures
