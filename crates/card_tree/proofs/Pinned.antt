-- PINNED: what the contract of each exported call allows is one outcome: the number returned and every word afterwards.
use Rattle.laws.specs.Prelude.{List, ◌≡◌, ℕ}
use Rattle.card_tree.specs.Tree.{tree_clear, tree_held, tree_pop, tree_push, tree_replace}
use Rattle.card_words.proofs.Pinned.{count, store, store_out}
use Rattle.card_words.specs.Out.{count_after}
use Rattle.card_words.specs.Store.{store_after, store_after_out}

-- n and k are two numbers returned, v and w two stores, x and y two `out`s
module _ (m levels : ℕ) (ws : List ℕ) (n k : ℕ) (v w : List ℕ) where
  pub pinned-tree-clear : store_after n v ≡ tree_clear m levels ws → store_after k w ≡ tree_clear m levels ws → (n ≡ k) × (v ≡ w)
  pinned-tree-clear p q = store (tree_clear m levels ws) n k v w p q

  pub pinned-tree-push : (rank tag bytes : ℕ) → store_after n v ≡ tree_push m levels ws rank tag bytes → store_after k w ≡ tree_push m levels ws rank tag bytes → (n ≡ k) × (v ≡ w)
  pinned-tree-push rank tag bytes p q = store (tree_push m levels ws rank tag bytes) n k v w p q

  module _ (out x y : List ℕ) where
    pub pinned-tree-pop : store_after_out n v x ≡ tree_pop m levels ws out → store_after_out k w y ≡ tree_pop m levels ws out → (n ≡ k) × (v ≡ w) × (x ≡ y)
    pinned-tree-pop p q = store_out (tree_pop m levels ws out) n k v w x y p q

    pub pinned-tree-replace : (rank tag bytes : ℕ) → store_after_out n v x ≡ tree_replace m levels ws rank tag bytes out → store_after_out k w y ≡ tree_replace m levels ws rank tag bytes out
        → (n ≡ k) × (v ≡ w) × (x ≡ y)
    pinned-tree-replace rank tag bytes p q = store_out (tree_replace m levels ws rank tag bytes out) n k v w x y p q

pub pinned-tree-held : (m levels : ℕ) (ws out : List ℕ) (n k : ℕ) (x y : List ℕ) → count_after n x ≡ tree_held m levels ws out → count_after k y ≡ tree_held m levels ws out
    → (n ≡ k) × (x ≡ y)
pinned-tree-held m levels ws out n k x y p q = count (tree_held m levels ws out) n k x y p q
