-- What the code between the slice and the by-value calls asks and says.
use Rattle.std.specs.Prelude.{◌&&◌, ◌-◌, ◌<◌, ◌≤◌}
use Rattle.laws.specs.Prelude.{Answer, BadShape, Bool, List, Request, cond, false, has_run, leb, ltb, ℕ, Err}
use Rattle.cluster_clock_model.specs.Prelude.{CycleOutcome, DrainOutcome, clock_cleared, cycle_outcome, cycled, drain_outcome, drains, fresh, stage_at, stage_count}
use Rattle.cluster_clock_model.specs.declared.Stage.{Stage}
use Rattle.cluster_records.specs.Lent.{at_node, at_place, ClusterRecord, kinds_ok, record_of, stages_read}
use Rattle.cluster_records.specs.declared.ClusterRead.{ClusterRead}
use Rattle.cluster_records.specs.declared.ClusterEnded.{ClusterEnded}

-- a word of 32 bits is below this
abbrev pub word_limit : ℕ
word_limit = 4294967296

-- ---- reading
-- some heap has so many levels, and a slice of so many records has one for each level from 2
unfoldable pub lends : ℕ → ℕ → Bool
lends levels len = leb 1 levels && (leb (levels - 1) stage_count && leb (levels - 1) len)

-- how many records are read
abbrev pub reach : ℕ → ℕ → ℕ
reach levels len = cond (lends levels len) (levels - 1) 0

abbrev pub read : List Stage → Bool → ClusterRead
read qs ok = record { stages = qs; ok = ok }

-- k of them
abbrev pub read_of : ℕ → List ClusterRecord → ClusterRead
read_of k rs = read (stages_read k rs) (kinds_ok k rs)

-- ---- the by-value calls on what was read from a slice of so many records
module _ (K levels len : ℕ) (ws : List ℕ) where
  unfoldable pub cycle_from : ClusterRead → Request → CycleOutcome
  cycle_from d r = cond (lends levels len && d.ok) (cycled K levels r d.stages ws) (cycle_outcome (Err BadShape) ws d.stages)

  unfoldable pub drains_from : ClusterRead → ℕ → DrainOutcome
  drains_from d budget = cond (lends levels len && d.ok) (drains K levels budget d.stages ws) (drain_outcome (Err BadShape) 0 false ws d.stages)

  -- a clear reads no record
  unfoldable pub clear_from : CycleOutcome
  clear_from = cond (lends levels len) (clock_cleared K levels fresh ws) (cycle_outcome (Err BadShape) ws fresh)

-- ---- what is left, and how many records are to be written
abbrev pub ended_by : Answer → ℕ → Bool → List Stage → ℕ → ClusterEnded
ended_by a n left qs count = record { stages = qs; answer = a; cycles = n; left = left; count = count }

abbrev pub ended_cycle : ℕ → CycleOutcome → ClusterEnded
ended_cycle levels o = ended_by o.answer 0 false o.records (cond (has_run o.answer) (levels - 1) 0)

abbrev pub ended_drain : ℕ → DrainOutcome → ClusterEnded
ended_drain levels d = ended_by d.answer d.cycles d.left d.records (cond (ltb 0 d.cycles) (levels - 1) 0)

-- a record's node and place fit their words
pub record Written (q : Stage) : Type 0 where
  pub node : at_node (record_of q) < word_limit
  pub place : at_place (record_of q) < word_limit

-- the records to be written lie within so many, and each fits its words
pub record Ready (t : ClusterEnded) (len : ℕ) : Type 0 where
  pub few : t.count ≤ stage_count
  pub within : t.count ≤ len
  pub fits : (i : ℕ) → i < t.count → Written (stage_at t.stages i)
