-- The calls of the clocked cluster heap, each a total function of K, levels, records and words to what it answers and leaves.
use Rattle.std.specs.Prelude.{◌&&◌, ◌||◌}
use Rattle.laws.specs.Prelude.{Answer, BadShape, Bool, Damaged, Idle, List, Request, asks, cond, false, is_refused, length, not, pred, replicate, suc, true, zero, ℕ, Result, Refusal, Ok, Err, None}
use Rattle.cluster_clock_model.specs.declared.Due.{Due}
use Rattle.cluster_clock_model.specs.declared.Due.TheVariants.{Fill, Nothing, Put, Swap}
use Rattle.cluster_clock_model.specs.declared.Stage.{Stage}
use Rattle.cluster_clock_model.specs.Stage.{no_stage, pass, stage_at, work}
use Rattle.cluster_clock_model.specs.Test.{sane_at, stages_ok}
use Rattle.cluster_model.specs.Prelude.{Ruling, extent, held_in, room, rule_at, shape_ok, wipe}

-- ---- what the calls answer and leave
pub record CycleOutcome : Type 0 where
  pub answer : Answer
  pub words : List ℕ
  pub records : List Stage

abbrev pub cycle_outcome : Answer → List ℕ → List Stage → CycleOutcome
cycle_outcome a ws rs = record { answer = a; words = ws; records = rs }

pub record DrainOutcome : Type 0 where
  pub answer : Answer
  pub cycles : ℕ
  pub left : Bool
  pub words : List ℕ
  pub records : List Stage

abbrev pub drain_outcome : Answer → ℕ → Bool → List ℕ → List Stage → DrainOutcome
drain_outcome a n left ws rs = record { answer = a; cycles = n; left = left; words = ws; records = rs }

-- one record for each level from 2, as many as the shape with the most levels needs
abbrev pub stage_count : ℕ
stage_count = 10

-- a cleared machine has nothing pending
unfoldable pub fresh : List Stage
fresh = replicate stage_count no_stage

-- ---- pending work
unfoldable pub is_nothing : Due → Bool
is_nothing Nothing = true
is_nothing (Put y) = false
is_nothing (Fill j) = false
is_nothing (Swap j x) = false

-- nothing is pending in k records from record i on
unfoldable pub quiet : (k : ℕ) → List Stage → ℕ → Bool
quiet zero rs i = true
quiet (suc k) rs i = is_nothing (stage_at rs i).due && quiet k rs (suc i)

module _ (K levels : ℕ) where
  -- ---- a cycle
  -- the root, where an operation is asked for; an idle cycle does not read it
  abbrev pub asked_ok : Request → List ℕ → Bool
  asked_ok r ws = not (asks r) || sane_at K (room K (pred levels)) ws 0

  -- the words and the records that a cycle leaves: what the request comes to is done at the root
  unfoldable pub cycle_run : Ruling → List Stage → List ℕ → CycleOutcome
  cycle_run g rs ws =
      let p = pass K (pred levels) 0 (work g.op 0) 0 rs ws in
      cycle_outcome g.answer p.words p.records

  -- 1, 2, 7, then 5 or 6. After 5, 6 and 7 the cycle runs as idle: such a ruling has no work. Nothing is ever too soon
  unfoldable pub cycled : Request → List Stage → List ℕ → CycleOutcome
  cycled r rs ws =
      cond (shape_ok K levels (length ws))
      (cond (asked_ok r ws && stages_ok K (pred levels) 0 0 rs ws) (cycle_run (rule_at K levels r ws) rs ws) (cycle_outcome (Err Damaged) ws rs))
      (cycle_outcome (Err BadShape) ws rs)

  -- ---- drain
  -- is work pending? Records past the last level are not counted
  abbrev pub pending : List Stage → Bool
  pending rs = not (quiet (pred levels) rs 0)

  -- "runs idle cycles until nothing is pending or the budget is spent"; "stops at 2 and reports the cycles already run, work left". A refused cycle has
  -- left everything
  unfoldable pub drain_from : ℕ → ℕ → List Stage → List ℕ → DrainOutcome
  drain_from zero n rs ws = drain_outcome (Ok None) n (pending rs) ws rs
  drain_from (suc b) n rs ws =
      let o = cycled Idle rs ws in
      cond (pending rs)
      (cond (is_refused o.answer) (drain_outcome o.answer n true o.words o.records) (drain_from b (suc n) o.records o.words))
      (drain_outcome (Ok None) n false ws rs)

  -- "at 1 it reports 0 and no work left"
  unfoldable pub drains : ℕ → List Stage → List ℕ → DrainOutcome
  drains budget rs ws = cond (shape_ok K levels (length ws)) (drain_from budget 0 rs ws) (drain_outcome (Err BadShape) 0 false ws rs)

  -- ---- clear and held
  -- "Clear writes zeros", and nothing is pending; refused it leaves everything, the records that it is handed too
  unfoldable pub clock_cleared : List Stage → List ℕ → CycleOutcome
  clock_cleared rs ws = cond (shape_ok K levels (length ws)) (cycle_outcome (Ok None) (wipe (extent K levels 1) ws) fresh) (cycle_outcome (Err BadShape) ws rs)

  -- held reads the root alone, in the middle of any work too
  unfoldable pub clock_held : List ℕ → Result ℕ Refusal
  clock_held ws = cond (shape_ok K levels (length ws)) (cond (sane_at K (room K (pred levels)) ws 0) (Ok (held_in K levels ws)) (Err Damaged)) (Err BadShape)
