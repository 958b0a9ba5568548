use Rattle.cluster.proofs.Downs.{end-bad, end-room, end_none}
use Rattle.cluster.proofs.put_end.Goals as goal

pub returns-then-not-node_ok : goal.returns-then-not-node_ok
returns-then-not-node_ok c = end-bad _ _ _ _ _ _ c.look_each-v.ensures _ c.node_ok.ensures c.if-not-node_ok.true-raw

pub returns-then-v-k : goal.returns-then-v-k
returns-then-v-k c = end-room _ _ _ _ _ _ c.look_each-v.ensures _ c.node_ok.ensures c.if-not-node_ok.false-raw c.if-v-k.true _ c.set_place.ensures

pub returns : goal.returns
returns c = end_none _ _ _ _ _ _ c.look_each-v.ensures _ c.node_ok.ensures c.if-not-node_ok.false-raw c.if-v-k.false
