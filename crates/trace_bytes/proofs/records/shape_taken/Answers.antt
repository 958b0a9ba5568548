-- `trace_bytes::records::shape_taken` meets its contract.
use Rattle.laws.specs.Prelude.{◌∙◌, not-false, sym}
use Rattle.tree_node.proofs.Steps.{order-range}
use Rattle.trace_bytes.proofs.Read.{shape-off, shape_on}
use Rattle.trace_bytes.proofs.records.shape_taken.Goals as goal

pub returns-then-not-order_ok : goal.returns-then-not-order_ok
returns-then-not-order_ok c = shape-off _ _ _ c.order_ok.ensures c.if-not-order_ok.true-raw

pub capacity-requires : goal.capacity-requires
capacity-requires c = order-range _ (sym c.order_ok.ensures ∙ not-false _ c.if-not-order_ok.false-raw)

pub returns : goal.returns
returns c = shape_on _ _ _ _ c.order_ok.ensures c.if-not-order_ok.false-raw c.capacity.ensures.counts
