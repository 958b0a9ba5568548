-- `card_words::sizes::tree_words` meets its contract.
use Rattle.laws.specs.Prelude.{rules}
use Rattle.card_words.proofs.Sized.{tree-most, tree-none, tree-order, tree-some}
use Rattle.card_words.proofs.sizes.tree_words.Goals as goal

pub returns-then-not-shape_ok : goal.returns-then-not-shape_ok
returns-then-not-shape_ok c = tree-none _ _ _ c.shape_ok.ensures c.if-not-shape_ok.true-raw

pub capacity-requires : goal.capacity-requires
capacity-requires c = tree-order _ _ _ c.shape_ok.ensures c.if-not-shape_ok.false-raw

pub overflow_mul-result : goal.overflow_mul-result
overflow_mul-result c = search (rules, tree-most _ _ _ c.shape_ok.ensures c.if-not-shape_ok.false-raw _ c.capacity.ensures.counts)

pub overflow_cast-result : goal.overflow_cast-result
overflow_cast-result c = search (rules, tree-most _ _ _ c.shape_ok.ensures c.if-not-shape_ok.false-raw _ c.capacity.ensures.counts)

pub returns : goal.returns
returns c = tree-some _ _ _ c.shape_ok.ensures c.if-not-shape_ok.false-raw _ c.capacity.ensures.counts
