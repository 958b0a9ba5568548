-- The calls of the clocked lines as C sees them: total functions of all numbers, words and records handed in, to the number returned and all words and records
-- afterwards.
use Rattle.std.specs.Prelude.{◌&&◌}
use Rattle.laws.specs.Prelude.{List, cond, leb, length, number_of, ℕ}
use Rattle.card_lines.specs.Lines.{rows}
use Rattle.card_words.specs.Asked.{request_of}
use Rattle.card_words.specs.Out.{answer_out, answer_words, bad_shape, CountAfter, count_answered, drain_out, drain_words, refused_out}
use Rattle.lines_model.specs.Clock.{clock_held, machine}
use Rattle.lines_model.specs.declared.Due.TheVariants.{Rest}
use Rattle.lines_records.specs.Lent.{lent_cleared, lent_cycled, LentDrain, lent_drains, LentOutcome, LineRecord}

-- ---- clear: the number, and all words and records afterwards
pub record ClockAfter : Type 0 where
  pub number : ℕ
  pub store : List ℕ
  pub records : List LineRecord

abbrev pub clock_after : ℕ → List ℕ → List LineRecord → ClockAfter
clock_after n ws rs = record { number = n; store = ws; records = rs }

-- ---- cycle and drain: `out` too
pub record ClockAfterOut : Type 0 where
  pub number : ℕ
  pub store : List ℕ
  pub records : List LineRecord
  pub out : List ℕ

abbrev pub clock_after_out : ℕ → List ℕ → List LineRecord → List ℕ → ClockAfterOut
clock_after_out n ws rs out = record { number = n; store = ws; records = rs; out = out }

-- ---- the calls: the lent calls, their answers in numbers
abbrev pub clear_of : LentOutcome → ClockAfter
clear_of o = clock_after (number_of o.answer) o.words o.records

abbrev pub cycle_of : LentOutcome → List ℕ → ClockAfterOut
cycle_of o out = clock_after_out (number_of o.answer) o.words o.records (answer_out o.answer out)

abbrev pub drain_of : LentDrain → List ℕ → ClockAfterOut
drain_of d out = clock_after_out (number_of d.answer) d.words d.records (drain_out d.cycles d.left out)

module _ (kind lines places : ℕ) (ws : List ℕ) where
  module _ (rs : List LineRecord) where
    -- a clear reads no record
    abbrev pub lines_clock_clear : ClockAfter
    lines_clock_clear = clear_of (lent_cleared (rows kind lines places) rs ws)

    -- where the boundary says no, all stands but `out`, which gets n zeros if it is long enough
    abbrev pub says_no : ℕ → List ℕ → ClockAfterOut
    says_no n out = clock_after_out bad_shape ws rs (refused_out n out)

    -- a request above 3 is none
    unfoldable pub lines_clock_cycle : ℕ → ℕ → ℕ → ℕ → List ℕ → ClockAfterOut
    lines_clock_cycle request rank tag bytes out =
        cond (leb answer_words (length out) && leb request 3) (cycle_of (lent_cycled (rows kind lines places) rs ws (request_of request rank tag bytes)) out) (says_no answer_words out)

    unfoldable pub lines_clock_drain : ℕ → List ℕ → ClockAfterOut
    lines_clock_drain budget out = cond (leb drain_words (length out)) (drain_of (lent_drains (rows kind lines places) rs ws budget) out) (says_no drain_words out)

  -- held reads the counts alone
  abbrev pub lines_clock_held : List ℕ → CountAfter
  lines_clock_held out = count_answered (clock_held (rows kind lines places) (machine ws Rest)) out
