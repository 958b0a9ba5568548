-- The calls of the one-at-a-time tree as C sees them: total functions of all numbers and words handed in, to the number returned and all
-- words afterwards.
use Rattle.laws.specs.Prelude.{List, Pop, Push, Replace, element, ℕ}
use Rattle.card_words.specs.Out.{CountAfter, count_answered}
use Rattle.card_words.specs.Store.{StoreAfter, StoreAfterOut, store_answered, store_done}
use Rattle.tree_model.specs.Prelude.{called, cleared, held_count}

module _ (m levels : ℕ) (ws : List ℕ) where
  abbrev pub tree_clear : StoreAfter
  tree_clear = store_done (cleared m levels ws)

  abbrev pub tree_push : ℕ → ℕ → ℕ → StoreAfter
  tree_push rank tag bytes = store_done (called m levels (Push (element rank tag bytes)) ws)

  abbrev pub tree_pop : List ℕ → StoreAfterOut
  tree_pop out = store_answered (called m levels Pop ws) ws out

  abbrev pub tree_replace : ℕ → ℕ → ℕ → List ℕ → StoreAfterOut
  tree_replace rank tag bytes out = store_answered (called m levels (Replace (element rank tag bytes)) ws) ws out

  abbrev pub tree_held : List ℕ → CountAfter
  tree_held out = count_answered (held_count m levels ws) out
