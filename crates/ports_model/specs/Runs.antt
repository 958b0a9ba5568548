-- Lists of calls on the words of several ports, and what a port holds there. These are definitions.
use Rattle.laws.specs.Prelude.{Element, Idle, List, Pop, Push, Replace, Request, ℕ, Ok, None}
use Rattle.promise.specs.Prelude.{Step, step}
use Rattle.bucket_model.specs.Prelude.{Call, Outcome, Said, Store, answered, ask, counted, held, outcome, store, stored, word}
use Rattle.ports_model.specs.Layout.{Shape, held_at, seat}
use Rattle.ports_model.specs.Calls.{cleared, held_count, popped, pushed, replaced}
use Rattle.ports_model.specs.Lists.{Ask, Heard, heard_at}

-- asking for nothing leaves everything
unfoldable pub asked : Shape → ℕ → Request → Store → Outcome
asked s p Idle x = outcome (Ok None) x.bits x.words
asked s p (Push e) x = pushed s p x.bits x.words e
asked s p Pop x = popped s p x.bits x.words
asked s p (Replace e) x = replaced s p x.bits x.words e

abbrev pub called_at : Shape → ℕ → Call → Store → Step Said Store
called_at s p (ask q) x = let o = asked s p q x in step (answered o.answer) (store o.bits o.words)
called_at s p held x = step (counted (held_count s p x.bits x.words)) x

unfoldable pub called : Shape → Ask → Store → Step Said Store
called s a x = called_at s a.port a.call x

-- the store that clear leaves
abbrev pub start : Shape → List ℕ → List ℕ → List ℕ → Store
start s lim b w = store (cleared s lim b w).bits (cleared s lim b w).words

-- ---- what a port holds, and what it hears

abbrev pub many_at : Shape → ℕ → Store → ℕ
many_at s p x = word x.words (held_at s p)

abbrev pub stored_at : Shape → ℕ → Store → List Element
stored_at s p x = stored (seat s p) x.words

abbrev pub heard_on : Shape → ℕ → List Ask → Store → List Heard
heard_on s p as' x = heard_at (called s) (many_at s) p as' x
