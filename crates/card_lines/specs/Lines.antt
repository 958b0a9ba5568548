-- The calls of the lines as C sees them: total functions of all numbers and words handed in, to the number returned and all words afterwards.
use Rattle.laws.specs.Prelude.{List, Pop, Push, Replace, cond, element, ℕ}
use Rattle.card_words.specs.Out.{CountAfter, count_answered}
use Rattle.card_words.specs.Store.{StoreAfter, StoreAfterOut, store_answered, store_done}
use Rattle.lines_model.specs.Calls.{called, cleared, held_count}
use Rattle.lines_model.specs.Layout.{shape_ok, store_words}
use Rattle.lines_model.specs.declared.Rows.{Rows}

-- the numbers that every call is told
abbrev pub rows : ℕ → ℕ → ℕ → Rows
rows kind lines places = record { kind = kind; lines = lines; places = places }

-- ---- the calls
module _ (kind lines places : ℕ) (ws : List ℕ) where
  abbrev pub lines_clear : StoreAfter
  lines_clear = store_done (cleared (rows kind lines places) ws)

  abbrev pub lines_push : ℕ → ℕ → ℕ → StoreAfter
  lines_push rank tag bytes = store_done (called (rows kind lines places) (Push (element rank tag bytes)) ws)

  abbrev pub lines_pop : List ℕ → StoreAfterOut
  lines_pop out = store_answered (called (rows kind lines places) Pop ws) ws out

  abbrev pub lines_replace : ℕ → ℕ → ℕ → List ℕ → StoreAfterOut
  lines_replace rank tag bytes out = store_answered (called (rows kind lines places) (Replace (element rank tag bytes)) ws) ws out

  abbrev pub lines_held : List ℕ → CountAfter
  lines_held out = count_answered (held_count (rows kind lines places) ws) out

-- how many words a store of this shape has; 0 where there is none
unfoldable pub lines_words : ℕ → ℕ → ℕ → ℕ
lines_words kind lines places = let k = rows kind lines places in cond (shape_ok k (store_words k)) (store_words k) 0
