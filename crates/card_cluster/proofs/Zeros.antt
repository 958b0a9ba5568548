-- A refused call answers zeros wherever `out` is long enough, and does not touch one that is too short.
use Rattle.laws.specs.Prelude.{List, ◌≡◌, ℕ}
use Rattle.card_cluster.specs.Cluster.{cluster_pop, cluster_replace}
use Rattle.card_words.proofs.Store.{store-zeros}
use Rattle.card_words.specs.Out.{answer_words, refused_out}

module _ (K levels : ℕ) (ws : List ℕ) where
  pub zeros-cluster-pop : (out : List ℕ) → ((cluster_pop K levels ws out).number ≡ 0 → ⊥) → (cluster_pop K levels ws out).out ≡ refused_out answer_words out
  zeros-cluster-pop out h = store-zeros _ ws out h

  pub zeros-cluster-replace : (rank tag bytes : ℕ) (out : List ℕ) → ((cluster_replace K levels ws rank tag bytes out).number ≡ 0 → ⊥)
      → (cluster_replace K levels ws rank tag bytes out).out ≡ refused_out answer_words out
  zeros-cluster-replace rank tag bytes out h = store-zeros _ ws out h
