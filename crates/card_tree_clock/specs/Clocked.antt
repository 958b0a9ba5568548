-- The calls of the clocked tree as C sees them: total functions of all numbers, words and records handed in, to the number returned and all words and
-- records afterwards.
use Rattle.std.specs.Prelude.{◌&&◌}
use Rattle.laws.specs.Prelude.{BadShape, List, cond, eqb, false, leb, length, number_of, ℕ, Err}
use Rattle.card_words.specs.Out.{answer_out, answer_words, bad_shape, CountAfter, count_answered, drain_out, drain_words, refused_out}
use Rattle.card_words.specs.Asked.{asked, marked, mark_in, mark_out, request_of}
use Rattle.tree_clock_model.specs.Prelude.{CycleOutcome, DrainOutcome, fresh}
use Rattle.tree_records.specs.Lent.{lent_cleared, lent_cycled, LentDrain, lent_drains, LentOutcome}
use Rattle.tree_records.specs.Steps.{clear_from, cycle_from, drain_from, ended, ended_cycle, ended_drain}
use Rattle.tree_records.specs.declared.Read.{Read}
use Rattle.tree_records.specs.declared.Record.{Record}
use Rattle.tree_records.specs.declared.Ended.{Ended}
use Rattle.tree_model.specs.Prelude.{held_count}
use Rattle.tree_model.specs.declared.Work.{Work}

-- ---- clear: the number, and all words and records afterwards
pub record ClockedAfter : Type 0 where
  pub number : ℕ
  pub store : List ℕ
  pub records : List Record
  pub mark : List ℕ

abbrev pub clocked_after : ℕ → List ℕ → List Record → List ℕ → ClockedAfter
clocked_after n ws rs mark = record { number = n; store = ws; records = rs; mark = mark }

-- ---- cycle and drain: the number, and all words and records afterwards
pub record ClockedAfterOut : Type 0 where
  pub number : ℕ
  pub store : List ℕ
  pub records : List Record
  pub mark : List ℕ
  pub out : List ℕ

abbrev pub clocked_after_out : ℕ → List ℕ → List Record → List ℕ → List ℕ → ClockedAfterOut
clocked_after_out n ws rs mark out = record { number = n; store = ws; records = rs; mark = mark; out = out }

-- ---- the calls: the lent calls, their answers in numbers
module _ (mark : List ℕ) where
  abbrev pub clear_of : LentOutcome → ClockedAfter
  clear_of o = clocked_after (number_of o.answer) o.words o.records (cond (eqb (number_of o.answer) 0) (mark_out false mark) mark)

  abbrev pub cycle_of : LentOutcome → List ℕ → ClockedAfterOut
  cycle_of o out = clocked_after_out (number_of o.answer) o.words o.records (mark_out o.mark mark) (answer_out o.answer out)

  abbrev pub drain_of : LentDrain → List ℕ → ClockedAfterOut
  drain_of d out = clocked_after_out (number_of d.answer) d.words d.records (mark_out d.mark mark) (drain_out d.cycles d.left out)

module _ (m levels : ℕ) (ws : List ℕ) (rs : List Record) (mark : List ℕ) where
  -- a clear reads no record and no mark
  unfoldable pub clocked_clear : ClockedAfter
  clocked_clear = cond (leb 1 (length mark)) (clear_of mark (lent_cleared m levels (mark_in mark) rs ws)) (clocked_after bad_shape ws rs mark)

  -- where the boundary says no, all stands but `out`, which gets n zeros if it is long enough
  abbrev pub says_no : ℕ → List ℕ → ClockedAfterOut
  says_no n out = clocked_after_out bad_shape ws rs mark (refused_out n out)

  unfoldable pub clocked_cycle : ℕ → ℕ → ℕ → ℕ → List ℕ → ClockedAfterOut
  clocked_cycle request rank tag bytes out =
      cond (leb answer_words (length out) && asked mark request) (cycle_of mark (lent_cycled m levels (mark_in mark) rs ws (request_of request rank tag bytes)) out) (says_no answer_words out)

  unfoldable pub clocked_drain : ℕ → List ℕ → ClockedAfterOut
  clocked_drain budget out =
      cond (leb drain_words (length out) && marked mark) (drain_of mark (lent_drains m levels (mark_in mark) rs ws budget) out) (says_no drain_words out)

abbrev pub clocked_held : ℕ → ℕ → List ℕ → List ℕ → CountAfter
clocked_held m levels ws out = count_answered (held_count m levels ws) out

-- ---- the calls on what was read of a slice of so many records: all words afterwards, and what is left to write of the records
pub record Told : Type 0 where
  pub ended : Ended
  pub store : List ℕ
  pub mark : List ℕ

abbrev pub told : Ended → List ℕ → List ℕ → Told
told t ws mark = record { ended = t; store = ws; mark = mark }

pub record ToldOut : Type 0 where
  pub ended : Ended
  pub store : List ℕ
  pub mark : List ℕ
  pub out : List ℕ

abbrev pub told_out : Ended → List ℕ → List ℕ → List ℕ → ToldOut
told_out t ws mark out = record { ended = t; store = ws; mark = mark; out = out }

-- where the boundary says no, none, whatever was read
abbrev pub none_ended : List Work → Ended
none_ended vs = ended (Err BadShape) 0 false (record { records = vs; mark = false }) 0

module _ (m levels len : ℕ) (ws mark : List ℕ) where
  abbrev pub clear_left : CycleOutcome → Told
  clear_left o = told (ended_cycle levels o) o.words (cond (eqb (number_of o.answer) 0) (mark_out false mark) mark)

  unfoldable pub clear_told : Told
  clear_told = cond (leb 1 (length mark)) (clear_left (clear_from m levels len (mark_in mark) ws)) (told (none_ended fresh.records) ws mark)

  abbrev pub cycle_left : List ℕ → CycleOutcome → ToldOut
  cycle_left out o = told_out (ended_cycle levels o) o.words (mark_out o.state.mark mark) (answer_out o.answer out)

  abbrev pub none_left : Read → ℕ → List ℕ → ToldOut
  none_left d n out = told_out (none_ended d.works) ws mark (refused_out n out)

  unfoldable pub cycle_told : Read → ℕ → ℕ → ℕ → ℕ → List ℕ → ToldOut
  cycle_told d request rank tag bytes out =
      cond (leb answer_words (length out) && asked mark request) (cycle_left out (cycle_from m levels len (mark_in mark) ws d (request_of request rank tag bytes))) (none_left d answer_words out)

  abbrev pub drain_left : List ℕ → DrainOutcome → ToldOut
  drain_left out o = told_out (ended_drain levels o) o.words (mark_out o.state.mark mark) (drain_out o.cycles o.left out)

  unfoldable pub drain_told : Read → ℕ → List ℕ → ToldOut
  drain_told d budget out = cond (leb drain_words (length out) && marked mark) (drain_left out (drain_from m levels len (mark_in mark) ws d budget)) (none_left d drain_words out)
