-- The calls of the cluster heap as C sees them: total functions of all numbers and words handed in, to the number returned and all words
-- afterwards.
use Rattle.laws.specs.Prelude.{List, Pop, Push, Replace, element, ℕ}
use Rattle.card_words.specs.Out.{CountAfter, count_answered}
use Rattle.card_words.specs.Store.{StoreAfter, StoreAfterOut, store_answered, store_done}
use Rattle.cluster_model.specs.Prelude.{called, cleared, held_count}

module _ (K levels : ℕ) (ws : List ℕ) where
  abbrev pub cluster_clear : StoreAfter
  cluster_clear = store_done (cleared K levels ws)

  abbrev pub cluster_push : ℕ → ℕ → ℕ → StoreAfter
  cluster_push rank tag bytes = store_done (called K levels (Push (element rank tag bytes)) ws)

  abbrev pub cluster_pop : List ℕ → StoreAfterOut
  cluster_pop out = store_answered (called K levels Pop ws) ws out

  abbrev pub cluster_replace : ℕ → ℕ → ℕ → List ℕ → StoreAfterOut
  cluster_replace rank tag bytes out = store_answered (called K levels (Replace (element rank tag bytes)) ws) ws out

  abbrev pub cluster_held : List ℕ → CountAfter
  cluster_held out = count_answered (held_count K levels ws) out
