-- PINNED: what the contract of each exported call allows is one outcome: the number returned and every word afterwards.
use Rattle.laws.specs.Prelude.{List, ◌≡◌, ℕ}
use Rattle.card_cluster.specs.Cluster.{cluster_clear, cluster_held, cluster_pop, cluster_push, cluster_replace}
use Rattle.card_words.proofs.Pinned.{count, store, store_out}
use Rattle.card_words.specs.Out.{count_after}
use Rattle.card_words.specs.Store.{store_after, store_after_out}

-- n and k are two numbers returned, v and w two stores, x and y two `out`s
module _ (K levels : ℕ) (ws : List ℕ) (n k : ℕ) (v w : List ℕ) where
  pub pinned-cluster-clear : store_after n v ≡ cluster_clear K levels ws → store_after k w ≡ cluster_clear K levels ws → (n ≡ k) × (v ≡ w)
  pinned-cluster-clear p q = store (cluster_clear K levels ws) n k v w p q

  pub pinned-cluster-push : (rank tag bytes : ℕ) → store_after n v ≡ cluster_push K levels ws rank tag bytes → store_after k w ≡ cluster_push K levels ws rank tag bytes → (n ≡ k) × (v ≡ w)
  pinned-cluster-push rank tag bytes p q = store (cluster_push K levels ws rank tag bytes) n k v w p q

  module _ (out x y : List ℕ) where
    pub pinned-cluster-pop : store_after_out n v x ≡ cluster_pop K levels ws out → store_after_out k w y ≡ cluster_pop K levels ws out → (n ≡ k) × (v ≡ w) × (x ≡ y)
    pinned-cluster-pop p q = store_out (cluster_pop K levels ws out) n k v w x y p q

    pub pinned-cluster-replace : (rank tag bytes : ℕ) → store_after_out n v x ≡ cluster_replace K levels ws rank tag bytes out → store_after_out k w y ≡ cluster_replace K levels ws rank tag bytes out
        → (n ≡ k) × (v ≡ w) × (x ≡ y)
    pinned-cluster-replace rank tag bytes p q = store_out (cluster_replace K levels ws rank tag bytes out) n k v w x y p q

pub pinned-cluster-held : (K levels : ℕ) (ws out : List ℕ) (n k : ℕ) (x y : List ℕ) → count_after n x ≡ cluster_held K levels ws out → count_after k y ≡ cluster_held K levels ws out
    → (n ≡ k) × (x ≡ y)
pinned-cluster-held K levels ws out n k x y p q = count (cluster_held K levels ws out) n k x y p q
