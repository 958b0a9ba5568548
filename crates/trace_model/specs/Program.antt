-- The trace program whole: from the bytes of standard input to the bytes of standard output.
use Rattle.std.specs.Prelude.{◌%◌, ◌*◌, ◌++◌, ◌+◌, ◌^◌, ◌∷◌}
use Rattle.laws.specs.Prelude.{List, [], count_of, drop, replicate, ℕ}
use Rattle.tree_clock_model.specs.Prelude.{cleared_machine, cycled, drains}
use Rattle.tree_clock_model.specs.declared.State.{State}
use Rattle.trace_model.specs.Format.{bad_line, bad_trace, end_line, header_bytes, header_of, line_of, records_of, trace_limit}
use Rattle.std.specs.Prelude.{None, Option, Some}
use Rattle.trace_model.specs.declared.Header.{Header}
use Rattle.laws.specs.Prelude.{Request}
use Rattle.trace_model.specs.declared.Version.{Version}
use Rattle.tree_model.specs.Prelude.{held_count, slot_words}

-- the number of the record behind n others, "counted from 1". It has 64 bits: no input has so many records that it turns over
abbrev pub next_number : ℕ → ℕ
next_number n = (n + 1) % 2 ^ 64

-- a store for any of the program's shapes
abbrev pub store_words : ℕ
store_words = slot_words * trace_limit

unfoldable pub empty_store : List ℕ
empty_store = replicate store_words 0

module _ (m levels : ℕ) where
  -- "then it drains", with a cycle for each level, and what is held is asked afterwards
  unfoldable pub end_of : State → List ℕ → List ℕ
  end_of s ws =
      let d = drains m levels levels s ws in
      end_line (count_of (held_count m levels d.words)) d.cycles

  -- "It runs one cycle a record and writes a line each; then it drains"; "a bad record, after the lines of those before it, gives
  -- bad record N (counted from 1) and no more". Behind n records, with this state and these words
  unfoldable pub text_from : Version → ℕ → State → List ℕ → List (Option Request) → List ℕ
  text_from v n s ws [] = end_of s ws
  text_from v n s ws (None ∷ es) = bad_line (next_number n)
  text_from v n s ws (Some r ∷ es) =
      let o = cycled m levels r s ws in
      line_of v (next_number n) r o.answer ++ text_from v (next_number n) o.state o.words es

-- "A cut or wrong header, or any other shape, gives the one line bad trace"; else the records of the bytes behind it, in the header's
-- version, are played on a cleared machine
unfoldable pub text_of : Option Header → List ℕ → List ℕ
text_of None rest = bad_trace
text_of (Some h) rest =
    let c = cleared_machine h.order h.levels empty_store in
    text_from h.order h.levels h.version 0 c.state c.words (records_of h.version rest)

-- THE PROGRAM
unfoldable pub trace_text : List ℕ → List ℕ
trace_text bs = text_of (header_of bs) (drop header_bytes bs)
