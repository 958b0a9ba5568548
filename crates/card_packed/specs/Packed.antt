-- The calls of the packed heap as C sees them: total functions of all numbers and words handed in, to the number returned and all words afterwards.
use Rattle.laws.specs.Prelude.{List, Pop, Push, Replace, cond, element, ℕ}
use Rattle.card_words.specs.Out.{CountAfter, count_answered}
use Rattle.card_words.specs.Store.{StoreAfter, StoreAfterOut, store_answered, store_done}
use Rattle.packed_model.specs.Calls.{called, cleared, held_count, shape_ok}
use Rattle.packed_model.specs.Words.{extent}

-- ---- the calls
abbrev pub packed_clear : ℕ → ℕ → List ℕ → StoreAfter
packed_clear H levels ws = store_done (cleared H levels ws)

module _ (H levels h : ℕ) (ws : List ℕ) where
  abbrev pub packed_push : ℕ → ℕ → ℕ → StoreAfter
  packed_push rank tag bytes = store_done (called H levels h (Push (element rank tag bytes)) ws)

  abbrev pub packed_pop : List ℕ → StoreAfterOut
  packed_pop out = store_answered (called H levels h Pop ws) ws out

  abbrev pub packed_replace : ℕ → ℕ → ℕ → List ℕ → StoreAfterOut
  packed_replace rank tag bytes out = store_answered (called H levels h (Replace (element rank tag bytes)) ws) ws out

  abbrev pub packed_held : List ℕ → CountAfter
  packed_held out = count_answered (held_count H levels h ws) out

-- how many words a store of this shape has; 0 where there is none
unfoldable pub packed_words : ℕ → ℕ → ℕ
packed_words H levels = cond (shape_ok H levels 393469) (extent H levels) 0
