-- A list of clocked calls through the boundary, and the same list of by-value cycles and drains.
use Rattle.std.specs.Prelude.{◌≡◌}
use Rattle.laws.specs.Prelude.{Element, Idle, List, Pop, Push, Replace, Request, blank, number_of, true, ℕ}
use Rattle.card_tree_clock.specs.Clocked.{clocked_clear, clocked_cycle, clocked_drain}
use Rattle.card_words.specs.Out.{drain_out, answer_out, CountAfter, count_after}
use Rattle.card_words.specs.Asked.{marked, mark_in}
use Rattle.tree_clock_model.specs.Prelude.{Machine, cycled, drains, machine}
use Rattle.tree_records.specs.History as lent
use Rattle.tree_records.specs.History.{memory}
use Rattle.tree_records.specs.declared.Record.{Record}
use Rattle.promise.specs.Prelude.{Step, step}

-- a cycle with a request, or a drain with a budget
pub data Call : Type 0 where
  asks : Request → Call
  drain : ℕ → Call

-- a request as C hands it over: its number, and an element's rank, tag and length
unfoldable pub code_of : Request → ℕ
code_of Idle = 0
code_of (Push x) = 1
code_of Pop = 2
code_of (Replace x) = 3

unfoldable pub brought_by : Request → Element
brought_by Idle = blank
brought_by (Push x) = x
brought_by Pop = blank
brought_by (Replace x) = x

-- what the host keeps between two calls: store, records and mark
pub record Kept : Type 0 where
  pub store : List ℕ
  pub records : List Record
  pub mark : List ℕ

abbrev pub kept : List ℕ → List Record → List ℕ → Kept
kept ws rs mark = record { store = ws; records = rs; mark = mark }

-- order, levels, and the `out` that each call is lent
module _ (m levels : ℕ) (out : List ℕ) where
  -- ---- through the boundary: what a call answers is its number and `out`
  unfoldable pub call_c : Call → Kept → Step CountAfter Kept
  call_c (asks r) x =
      let b = clocked_cycle m levels x.store x.records x.mark (code_of r) (brought_by r).rank.0 (brought_by r).tag.0 (brought_by r).length.0 out in
      step (count_after b.number b.out) (kept b.store b.records b.mark)
  call_c (drain budget) x =
      let b = clocked_drain m levels x.store x.records x.mark budget out in
      step (count_after b.number b.out) (kept b.store b.records b.mark)

  -- ---- by value, in C's numbers
  unfoldable pub call_m : Call → Machine → Step CountAfter Machine
  call_m (asks r) y =
      let o = cycled m levels r y.state y.words in
      step (count_after (number_of o.answer) (answer_out o.answer out)) (machine o.state o.words)
  call_m (drain budget) y =
      let d = drains m levels budget y.state y.words in
      step (count_after (number_of d.answer) (drain_out d.cycles d.left out)) (machine d.state d.words)

-- a clear through the boundary
abbrev pub clear_c : ℕ → ℕ → Kept → Kept
clear_c m levels x =
    let b = clocked_clear m levels x.store x.records x.mark in
    kept b.store b.records b.mark

-- there is a mark, and with it the memory holds the machine y
pub record Holds (m levels : ℕ) (x : Kept) (y : Machine) : Type 0 where
  pub there : marked x.mark ≡ true
  pub memory : lent.Holds m levels (memory x.records (mark_in x.mark) x.store) y
