-- What the code between the slice and the by-value calls asks and says.
use Rattle.std.specs.Prelude.{◌&&◌, ◌-◌, ◌<◌, ◌≤◌}
use Rattle.laws.specs.Prelude.{Answer, BadShape, Bool, List, Request, cond, false, get_or, leb, ltb, ℕ, Err}
use Rattle.tree_clock_model.specs.Prelude.{CycleOutcome, DrainOutcome, clocked_cleared, cycle_outcome, cycled, drain_outcome, drains, fresh, has_run, record_count}
use Rattle.tree_clock_model.specs.declared.State.{State}
use Rattle.tree_records.specs.Lent.{kinds_ok, record_of, works_read}
use Rattle.tree_records.specs.declared.Read.{Read}
use Rattle.tree_records.specs.declared.Record.{Record}
use Rattle.tree_records.specs.declared.Ended.{Ended}
use Rattle.tree_model.specs.Prelude.{idle}
use Rattle.tree_model.specs.declared.Work.{Work}

-- a word of 32 bits is below this
abbrev pub word_limit : ℕ
word_limit = 4294967296

-- ---- reading
-- some tree has so many levels, and a slice of so many records has one for each level from 2
unfoldable pub lends : ℕ → ℕ → Bool
lends levels len = leb 1 levels && (leb (levels - 1) record_count && leb (levels - 1) len)

-- how many records are read
abbrev pub reach : ℕ → ℕ → ℕ
reach levels len = cond (lends levels len) (levels - 1) 0

abbrev pub read : List Work → Bool → Read
read ws ok = record { works = ws; ok = ok }

-- k of them
abbrev pub read_of : ℕ → List Record → Read
read_of k rs = read (works_read k rs) (kinds_ok k rs)

abbrev pub state_of : Read → Bool → State
state_of d mark = record { records = d.works; mark = mark }

-- a clear reads no record
abbrev pub unread : Bool → State
unread mark = record { records = fresh.records; mark = mark }

-- ---- the by-value calls on what was read from a slice of so many records
module _ (m levels len : ℕ) (mark : Bool) (ws : List ℕ) where
  unfoldable pub cycle_from : Read → Request → CycleOutcome
  cycle_from d r = cond (lends levels len && d.ok) (cycled m levels r (state_of d mark) ws) (cycle_outcome (Err BadShape) ws (state_of d mark))

  unfoldable pub drain_from : Read → ℕ → DrainOutcome
  drain_from d budget = cond (lends levels len && d.ok) (drains m levels budget (state_of d mark) ws) (drain_outcome (Err BadShape) 0 false ws (state_of d mark))

  unfoldable pub clear_from : CycleOutcome
  clear_from = cond (lends levels len) (clocked_cleared m levels (unread mark) ws) (cycle_outcome (Err BadShape) ws (unread mark))

-- ---- what is left, and how many records are to be written
abbrev pub ended : Answer → ℕ → Bool → State → ℕ → Ended
ended a n left s count = record { state = s; answer = a; cycles = n; left = left; count = count }

abbrev pub ended_cycle : ℕ → CycleOutcome → Ended
ended_cycle levels o = ended o.answer 0 false o.state (cond (has_run o.answer) (levels - 1) 0)

abbrev pub ended_drain : ℕ → DrainOutcome → Ended
ended_drain levels d = ended d.answer d.cycles d.left d.state (cond (ltb 0 d.cycles) (levels - 1) 0)

-- the records to be written lie within so many, and their nodes within their words
pub record Ready (t : Ended) (len : ℕ) : Type 0 where
  pub few : t.count ≤ record_count
  pub within : t.count ≤ len
  pub nodes : (i : ℕ) → i < t.count → (record_of (get_or t.state.records i idle)).node < word_limit
