-- The calls of the clocked cluster heap as C sees them: total functions of all numbers, words and records handed in, to the number returned and all words
-- and records afterwards.
use Rattle.std.specs.Prelude.{◌&&◌}
use Rattle.laws.specs.Prelude.{BadShape, List, cond, false, leb, length, number_of, ℕ, Err}
use Rattle.card_words.specs.Out.{drain_out, answer_out, answer_words, bad_shape, CountAfter, count_answered, drain_words, refused_out}
use Rattle.card_words.specs.Asked.{request_of}
use Rattle.cluster_clock_model.specs.Prelude.{CycleOutcome, DrainOutcome, clock_held}
use Rattle.cluster_clock_model.specs.declared.Stage.{Stage}
use Rattle.cluster_records.specs.Lent.{ClusterRecord, lent_cleared, LentDrain, lent_drains, LentOutcome, lent_cycled}
use Rattle.cluster_records.specs.Steps.{clear_from, cycle_from, drains_from, ended_by, ended_cycle, ended_drain}
use Rattle.cluster_records.specs.declared.ClusterRead.{ClusterRead}
use Rattle.cluster_records.specs.declared.ClusterEnded.{ClusterEnded}

-- ---- clear: the number, and all words and records afterwards
pub record ClockedClusterAfter : Type 0 where
  pub number : ℕ
  pub store : List ℕ
  pub records : List ClusterRecord

abbrev pub clocked_cluster_after : ℕ → List ℕ → List ClusterRecord → ClockedClusterAfter
clocked_cluster_after n ws rs = record { number = n; store = ws; records = rs }

-- ---- cycle and drain: the number, and all words and records afterwards
pub record ClockedClusterAfterOut : Type 0 where
  pub number : ℕ
  pub store : List ℕ
  pub records : List ClusterRecord
  pub out : List ℕ

abbrev pub clocked_cluster_after_out : ℕ → List ℕ → List ClusterRecord → List ℕ → ClockedClusterAfterOut
clocked_cluster_after_out n ws rs out = record { number = n; store = ws; records = rs; out = out }

-- ---- the calls: the lent calls, their answers in numbers
abbrev pub clear_of : LentOutcome → ClockedClusterAfter
clear_of o = clocked_cluster_after (number_of o.answer) o.words o.records

abbrev pub cycle_of : LentOutcome → List ℕ → ClockedClusterAfterOut
cycle_of o out = clocked_cluster_after_out (number_of o.answer) o.words o.records (answer_out o.answer out)

abbrev pub drain_of : LentDrain → List ℕ → ClockedClusterAfterOut
drain_of d out = clocked_cluster_after_out (number_of d.answer) d.words d.records (drain_out d.cycles d.left out)

module _ (K levels : ℕ) (ws : List ℕ) (rs : List ClusterRecord) where
  -- a clear reads no record
  abbrev pub clocked_cluster_clear : ClockedClusterAfter
  clocked_cluster_clear = clear_of (lent_cleared K levels rs ws)

  -- where the boundary says no, all stands but `out`, which gets n zeros if it is long enough
  abbrev pub says_no : ℕ → List ℕ → ClockedClusterAfterOut
  says_no n out = clocked_cluster_after_out bad_shape ws rs (refused_out n out)

  -- a request above 3 is none
  unfoldable pub clocked_cluster_cycle : ℕ → ℕ → ℕ → ℕ → List ℕ → ClockedClusterAfterOut
  clocked_cluster_cycle request rank tag bytes out =
      cond (leb answer_words (length out) && leb request 3) (cycle_of (lent_cycled K levels rs ws (request_of request rank tag bytes)) out) (says_no answer_words out)

  unfoldable pub clocked_cluster_drain : ℕ → List ℕ → ClockedClusterAfterOut
  clocked_cluster_drain budget out = cond (leb drain_words (length out)) (drain_of (lent_drains K levels rs ws budget) out) (says_no drain_words out)

abbrev pub clocked_cluster_held : ℕ → ℕ → List ℕ → List ℕ → CountAfter
clocked_cluster_held K levels ws out = count_answered (clock_held K levels ws) out

-- ---- the calls on what was read of a slice of so many records: all words afterwards, and what is left to write of the records
pub record Told : Type 0 where
  pub ended : ClusterEnded
  pub store : List ℕ

abbrev pub told : ClusterEnded → List ℕ → Told
told t ws = record { ended = t; store = ws }

pub record ToldOut : Type 0 where
  pub ended : ClusterEnded
  pub store : List ℕ
  pub out : List ℕ

abbrev pub told_out : ClusterEnded → List ℕ → List ℕ → ToldOut
told_out t ws out = record { ended = t; store = ws; out = out }

-- where the boundary says no, none, whatever was read
abbrev pub none_ended : List Stage → ClusterEnded
none_ended qs = ended_by (Err BadShape) 0 false qs 0

module _ (K levels len : ℕ) (ws : List ℕ) where
  abbrev pub clear_told : Told
  clear_told = let o = clear_from K levels len ws in told (ended_cycle levels o) o.words

  abbrev pub cycle_left : List ℕ → CycleOutcome → ToldOut
  cycle_left out o = told_out (ended_cycle levels o) o.words (answer_out o.answer out)

  abbrev pub none_left : ClusterRead → ℕ → List ℕ → ToldOut
  none_left d n out = told_out (none_ended d.stages) ws (refused_out n out)

  unfoldable pub cycle_told : ClusterRead → ℕ → ℕ → ℕ → ℕ → List ℕ → ToldOut
  cycle_told d request rank tag bytes out =
      cond (leb answer_words (length out) && leb request 3) (cycle_left out (cycle_from K levels len ws d (request_of request rank tag bytes))) (none_left d answer_words out)

  abbrev pub drain_left : List ℕ → DrainOutcome → ToldOut
  drain_left out o = told_out (ended_drain levels o) o.words (drain_out o.cycles o.left out)

  unfoldable pub drain_told : ClusterRead → ℕ → List ℕ → ToldOut
  drain_told d budget out = cond (leb drain_words (length out)) (drain_left out (drains_from K levels len ws d budget)) (none_left d drain_words out)
