-- `card_cluster::card_cluster_clear` meets its contract.
use Rattle.card_words.proofs.Store.{store-done}
use Rattle.card_cluster.proofs.card_cluster_clear.Goals as goal

pub returns : goal.returns
returns c = store-done _ _ _ _ c.number.ensures c.clear.ensures
