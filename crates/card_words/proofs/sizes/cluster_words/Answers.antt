-- `card_words::sizes::cluster_words` meets its contract.
use Rattle.laws.specs.Prelude.{arith}
use Rattle.cluster.proofs.Shapes.{nodes-counted}
use Rattle.card_words.proofs.Cluster.{words-most, words-none, words-some}
use Rattle.card_words.proofs.sizes.cluster_words.Goals as goal

pub returns-then-not-shape_ok : goal.returns-then-not-shape_ok
returns-then-not-shape_ok c = words-none _ _ _ c.shape_ok.ensures c.if-not-shape_ok.true-raw

pub overflow_mul-result-2 : goal.overflow_mul-result-2
overflow_mul-result-2 c = omega (arith, words-most _ _ _ c.shape_ok.ensures c.if-not-shape_ok.false-raw _ (nodes-counted _ _ c.nodes-n.ensures))

pub overflow_cast-result : goal.overflow_cast-result
overflow_cast-result c = omega (arith, words-most _ _ _ c.shape_ok.ensures c.if-not-shape_ok.false-raw _ (nodes-counted _ _ c.nodes-n.ensures))

pub returns : goal.returns
returns c = words-some _ _ _ c.shape_ok.ensures c.if-not-shape_ok.false-raw _ (nodes-counted _ _ c.nodes-n.ensures)
