-- Lists of calls through C, each on what the one before left: what a call answers is the number returned and `out`. These are definitions.
use Rattle.laws.specs.Prelude.{Element, Idle, List, Pop, Push, Replace, Request, blank, ℕ}
use Rattle.card_lines.specs.Clocked.{lines_clock_cycle}
use Rattle.card_lines.specs.Lines.{lines_pop, lines_push, lines_replace}
use Rattle.card_words.specs.Heard.{Ask, pop, push, replace}
use Rattle.card_words.specs.Out.{count_after, CountAfter}
use Rattle.lines_records.specs.History.{Memory, memory}
use Rattle.promise.specs.Prelude.{Step, step}

-- a request's number, and the element that is handed over with it
abbrev pub code_of : Request → ℕ
code_of Idle = 0
code_of (Push x) = 1
code_of Pop = 2
code_of (Replace x) = 3

abbrev pub brought_by : Request → Element
brought_by Idle = blank
brought_by (Push x) = x
brought_by Pop = blank
brought_by (Replace x) = x

-- ---- the exported calls, `out` lent to each
module _ (kind lines places : ℕ) (out : List ℕ) where
  abbrev pub lines_c : Ask → List ℕ → Step CountAfter (List ℕ)
  lines_c (push x) ws = let b = lines_push kind lines places ws x.rank.0 x.tag.0 x.length.0 in step (count_after b.number out) b.store
  lines_c pop ws = let b = lines_pop kind lines places ws out in step (count_after b.number b.out) b.store
  lines_c (replace x) ws = let b = lines_replace kind lines places ws x.rank.0 x.tag.0 x.length.0 out in step (count_after b.number b.out) b.store

  abbrev pub lines_clock_c : Request → Memory → Step CountAfter Memory
  lines_clock_c q x =
      let e = brought_by q in
      let b = lines_clock_cycle kind lines places x.words x.records (code_of q) e.rank.0 e.tag.0 e.length.0 out in
      step (count_after b.number b.out) (memory b.records b.store)
