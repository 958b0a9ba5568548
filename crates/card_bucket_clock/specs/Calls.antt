-- The calls of the clocked bucket queue as C sees them: total functions of all numbers, words and records handed in, to the number returned and all words
-- and records afterwards.
use Rattle.std.specs.Prelude.{◌&&◌}
use Rattle.laws.specs.Prelude.{Element, List, blank, cond, has_run, leb, length, number_of, set, ℕ}
use Rattle.card_words.specs.Asked.{request_of}
use Rattle.card_words.specs.Out.{bad_shape, CountAfter, count_answered}
use Rattle.bucket_model.specs.Prelude.{depth_ok, queue}
use Rattle.std.specs.Prelude.{Option}
use Rattle.std.specs.Prelude.{None, Some}
use Rattle.bucket_clock_model.specs.Desk.{clock_cleared, clock_held, count_words, cycled, CycleOutcome, desk, fresh}
use Rattle.bucket_clock_records.specs.Lent.{BucketRecord, lends, read_of, works_back}

-- ---- the number, and all words and records afterwards
pub record ClockAfter : Type 0 where
  pub number : ℕ
  pub bits : List ℕ
  pub words : List ℕ
  pub counts : List ℕ
  pub records : List BucketRecord

abbrev pub clock_after : ℕ → List ℕ → List ℕ → List ℕ → List BucketRecord → ClockAfter
clock_after n b w c rs = record { number = n; bits = b; words = w; counts = c; records = rs }

-- .. and `out`
pub record ClockAfterOut : Type 0 where
  pub number : ℕ
  pub bits : List ℕ
  pub words : List ℕ
  pub counts : List ℕ
  pub records : List BucketRecord
  pub out : List ℕ

abbrev pub clock_after_out : ℕ → List ℕ → List ℕ → List ℕ → List BucketRecord → List ℕ → ClockAfterOut
clock_after_out n b w c rs out = record { number = n; bits = b; words = w; counts = c; records = rs; out = out }

-- "`out` of a cycle has four words: 1 or 0, rank, tag, length"; the others stand
abbrev pub leave_words : ℕ
leave_words = 4

abbrev pub leaves_out : ℕ → Element → List ℕ → List ℕ
leaves_out some x out = set (set (set (set out 0 some) 1 x.rank.0) 2 x.tag.0) 3 x.length.0

abbrev pub leaves_told : Option Element → List ℕ → List ℕ
leaves_told None out = leaves_out 0 blank out
leaves_told (Some x) out = leaves_out 1 x out

-- ---- the calls

-- the least number of counts; 0 where no queue has so many storeys
unfoldable pub clock_counts : ℕ → ℕ
clock_counts d = cond (depth_ok d) (count_words (queue d 1)) 0

module _ (d n : ℕ) (b w c : List ℕ) (rs : List BucketRecord) where
  -- where a cycle ran, the records are written back
  abbrev pub ended : CycleOutcome → ClockAfter
  ended o = clock_after (number_of o.answer) o.desk.bits o.desk.words o.desk.counts (works_back (cond (has_run o.answer) d 0) o.desk.records rs)

  abbrev pub ended_out : List ℕ → CycleOutcome → ClockAfterOut
  ended_out out o = clock_after_out (ended o).number (ended o).bits (ended o).words (ended o).counts (ended o).records (leaves_told o.leaves out)

  -- a clear reads no record
  unfoldable pub clock_clear : ClockAfter
  clock_clear = cond (lends d (length rs)) (ended (clock_cleared (queue d n) (desk b c w fresh))) (clock_after bad_shape b w c rs)

  -- "a kind or a request above 3 is refusal 1": all stands but `out`; an `out` that is too short is not touched
  unfoldable pub clock_cycle : ℕ → ℕ → ℕ → ℕ → List ℕ → ClockAfterOut
  clock_cycle request rank tag bytes out =
      cond (leb leave_words (length out))
      (cond ((read_of d rs).ok && leb request 3) (ended_out out (cycled (queue d n) (request_of request rank tag bytes) (desk b c w (read_of d rs).works))) (clock_after_out bad_shape b w c rs (leaves_told None out)))
      (clock_after_out bad_shape b w c rs out)

abbrev pub clock_held_at : ℕ → ℕ → List ℕ → List ℕ → List ℕ → List ℕ → CountAfter
clock_held_at d n b w c out = count_answered (clock_held (queue d n) (desk b c w fresh)) out
