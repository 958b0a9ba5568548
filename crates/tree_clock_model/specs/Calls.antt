-- The calls of the clocked tree, each a total function of order, levels, words and state to what it answers and leaves.
use Rattle.std.specs.Prelude.{◌&&◌, ◌||◌}
use Rattle.laws.specs.Prelude.{Answer, BadShape, Bool, Damaged, Idle, List, Pop, Push, Replace, Request, TooSoon, cond, false, length, not, pred, replicate, suc, true, zero, ℕ, Ok, None, Err}
use Rattle.tree_clock_model.specs.Cycle.{cycle_ok, cycle_words, quiet, Works}
use Rattle.tree_clock_model.specs.Records.{records_after, works_of}
use Rattle.tree_clock_model.specs.declared.State.{State}
use Rattle.tree_model.specs.Prelude.{Ruling, cleared, idle, levels_of, rest_words, room, root_ok, rule_at, ruling, shape_ok, under, wipe, work}
use Rattle.tree_model.specs.declared.Op.{Op}
use Rattle.tree_model.specs.declared.Op.TheVariants.{Nothing}
unfoldable pub use Rattle.strip.specs.Answers.{asks, is_refused}

-- ---- the request
unfoldable pub pops_or_replaces : Request → Bool
pops_or_replaces Idle = false
pops_or_replaces (Push x) = false
pops_or_replaces Pop = true
pops_or_replaces (Replace x) = true

-- "too soon: clocked pop or replace with the mark on"; any other request comes to what it would at rest
unfoldable pub rule_marked : Bool → Request → Ruling → Ruling
rule_marked mark r g = cond (mark && pops_or_replaces r) (ruling (Err TooSoon) Nothing) g

-- the mark: "was the last cycle's operation answered without refusal?"
unfoldable pub marks : Request → Answer → Bool
marks r a = asks r && not (is_refused a)

-- ---- what the calls answer and leave
pub record CycleOutcome : Type 0 where
  pub answer : Answer
  pub words : List ℕ
  pub state : State

abbrev pub cycle_outcome : Answer → List ℕ → State → CycleOutcome
cycle_outcome a ws s = record { answer = a; words = ws; state = s }

pub record DrainOutcome : Type 0 where
  pub answer : Answer
  pub cycles : ℕ
  pub left : Bool
  pub words : List ℕ
  pub state : State

abbrev pub drain_outcome : Answer → ℕ → Bool → List ℕ → State → DrainOutcome
drain_outcome a n left ws s = record { answer = a; cycles = n; left = left; words = ws; state = s }

-- one record for each level from 2, as many as the shape with the most levels needs
abbrev pub record_count : ℕ
record_count = 14

-- "A cleared machine has none pending and the mark off"
unfoldable pub fresh : State
fresh = record { records = replicate record_count idle; mark = false }

-- how many levels have a record, "each level from 2", and how many there are with the root's
abbrev pub from_two : ℕ → ℕ
from_two levels = pred levels

abbrev pub all_levels : ℕ → ℕ
all_levels levels = suc (from_two levels)

module _ (m levels : ℕ) where
  -- ---- a cycle
  abbrev pub rule_now : Request → State → List ℕ → Ruling
  rule_now r s ws = rule_marked s.mark r (rule_at m levels r ws)

  -- "Level 1 does the requested operation's root step; a level with pending work does that node's step"
  abbrev pub cycle_work : Op → State → Works (all_levels levels)
  cycle_work o s = (work o 0, works_of (from_two levels) s.records 0)

  -- the root passes test 2 where an operation is asked for; an idle cycle does not read it
  abbrev pub asked_ok : Request → List ℕ → Bool
  asked_ok r ws = not (asks r) || root_ok m levels ws

  -- .. and so does all that this cycle's steps read
  abbrev pub steps_ok : Op → State → List ℕ → Bool
  steps_ok o s ws = cycle_ok m (all_levels levels) (cycle_work o s) (levels_of m (all_levels levels) ws 0 1)

  -- the words and the state that a cycle leaves
  unfoldable pub cycle_run : Request → Ruling → State → List ℕ → CycleOutcome
  cycle_run r g s ws =
      cycle_outcome g.answer (cycle_words m (all_levels levels) (cycle_work g.op s) 0 1 ws) (record {
        records = records_after m (from_two levels) (rest_words m (from_two levels) (work g.op 0) 0 1 ws) 0 s.records (under m (from_two levels) ws 0 1);
        mark = marks r g.answer;
      })

  -- "Order for the tree: 1, 2, 3, then 5 or 6", with 7 behind 3. After 3, 5, 6 and 7 the "cycle runs as idle": such a ruling has no work
  unfoldable pub cycled : Request → State → List ℕ → CycleOutcome
  cycled r s ws =
      cond (shape_ok m levels (length ws))
      (cond (asked_ok r ws && steps_ok (rule_now r s ws).op s ws) (cycle_run r (rule_now r s ws) s ws) (cycle_outcome (Err Damaged) ws s))
      (cycle_outcome (Err BadShape) ws s)

  -- ---- drain
  -- is work pending? "records past the last level" are not counted
  abbrev pub pending : State → Bool
  pending s = not (quiet (from_two levels) (works_of (from_two levels) s.records 0))

  -- "runs idle cycles until nothing is pending or the budget is spent"; "stops at 2 and reports the cycles already run, work left". A
  -- refused cycle has left everything
  unfoldable pub drain_from : ℕ → ℕ → State → List ℕ → DrainOutcome
  drain_from zero n s ws = drain_outcome (Ok None) n (pending s) ws s
  drain_from (suc b) n s ws =
      let o = cycled Idle s ws in
      cond (pending s)
      (cond (is_refused o.answer) (drain_outcome o.answer n true o.words o.state) (drain_from b (suc n) o.state o.words))
      (drain_outcome (Ok None) n false ws s)

  -- "at 1 it reports 0 and no work left"
  unfoldable pub drains : ℕ → State → List ℕ → DrainOutcome
  drains budget s ws = cond (shape_ok m levels (length ws)) (drain_from budget 0 s ws) (drain_outcome (Err BadShape) 0 false ws s)

  -- ---- clear and held; the call held is that of the tree, `counted`
  -- a machine that was never used, cleared: zeros, nothing pending and the mark off
  abbrev pub cleared_machine : List ℕ → CycleOutcome
  cleared_machine ws = cycle_outcome (cleared m levels ws).answer (cleared m levels ws).words fresh

  -- "Clear writes zeros"; refused it leaves everything, the state that it is handed too
  unfoldable pub clocked_cleared : State → List ℕ → CycleOutcome
  clocked_cleared s ws = cond (shape_ok m levels (length ws)) (cycle_outcome (Ok None) (wipe (room m levels) ws) fresh) (cycle_outcome (Err BadShape) ws s)
