-- A refused call answers zeros wherever `out` is long enough, and does not touch one that is too short.
use Rattle.laws.specs.Prelude.{List, ◌≡◌, ℕ}
use Rattle.card_tree.specs.Tree.{tree_pop, tree_replace}
use Rattle.card_words.proofs.Store.{store-zeros}
use Rattle.card_words.specs.Out.{answer_words, refused_out}

module _ (m levels : ℕ) (ws : List ℕ) where
  pub zeros-tree-pop : (out : List ℕ) → ((tree_pop m levels ws out).number ≡ 0 → ⊥) → (tree_pop m levels ws out).out ≡ refused_out answer_words out
  zeros-tree-pop out h = store-zeros _ ws out h

  pub zeros-tree-replace : (rank tag bytes : ℕ) (out : List ℕ) → ((tree_replace m levels ws rank tag bytes out).number ≡ 0 → ⊥) → (tree_replace m levels ws rank tag bytes out).out ≡ refused_out answer_words out
  zeros-tree-replace rank tag bytes out h = store-zeros _ ws out h
