-- What the code of the levels asks and says, and of their records.
use Rattle.std.specs.Prelude.{Option, ◌*◌, ◌+◌, ◌<◌, ◌≡◌, ◌≤◌, IfSome, is_some}
use Rattle.laws.specs.Prelude.{Answer, Bool, Damaged, List, cond, element, get_or, length, pred, suc, true, zero, ℕ, Err}
use Rattle.tree_clock_model.specs.Prelude.{CycleOutcome, cycle_ok, cycle_outcome, cycle_words, record_count, records_after, works_of}
use Rattle.tree_clock_model.specs.declared.State.{State}
use Rattle.tree_clock_level.specs.declared.AtLevel.{AtLevel}
use Rattle.tree_clock_level.specs.declared.Step.{Step}
use Rattle.tree_clock_level.specs.declared.Write.{Write}
use Rattle.tree_clock_level.specs.Root.{RoomIs}
use Rattle.tree_clock_level.specs.declared.root.RootStep.{RootStep}
use Rattle.tree_node.specs.Room.{child_of, Lies, RoomUnder}
use Rattle.tree_model.specs.Prelude.{level_move, level_of, node_move, node_of, rest_words, slot_limit, slot_words, step_ok, top, under, work, work_ok, write}
use Rattle.tree_model.specs.declared.Move.{Move}
use Rattle.tree_model.specs.declared.Op.{Op}
use Rattle.tree_model.specs.declared.Work.{Work}

abbrev pub state_of : List Work → Bool → State
state_of rs mark = record { records = rs; mark = mark }

-- ---- the levels one after the other: where each begins, how many nodes it has, and the room below a slot of it
pub record SecondLevel (m top : ℕ) (a : AtLevel) : Type 0 where
  pub base : a.base ≡ m
  pub nodes : a.nodes ≡ m
  pub room : RoomUnder m top a.room

pub record NextLevel (m : ℕ) (a d : AtLevel) : Type 0 where
  pub base : d.base ≡ a.base + a.nodes * m
  pub nodes : d.nodes ≡ a.nodes * m
  pub room : RoomUnder m a.room d.room

-- ---- one level: c nodes from slot b, with room for r below each slot and, where that is any, the next level with room for u; so many as
-- some number of levels has
pub record LevelIn (m b c r u : ℕ) (ws : List ℕ) : Type 0 where
  pub order : 0 < m
  pub few : m ≤ 8
  pub words : slot_words * (b + c * m) ≤ length ws
  pub small : b + c * m ≤ slot_limit
  pub limit : r ≤ slot_limit
  pub deeper : u ≤ slot_limit
  pub below : ℕ
  pub fits : RoomIs m below r
  pub under : RoomIs m (pred below) u
  pub children : 1 ≤ r → slot_words * (b + c * m + c * m * m) ≤ length ws

-- the step v at the node from slot f of a level that begins at slot b
abbrev pub StepOf : ℕ → ℕ → Move → Step → Type 0
StepOf b f v s = (s.write.at ≡ b + f + v.place) × (s.write.slot ≡ v.slot) × (s.rest ≡ work v.rest (f + v.place))

-- what the level's work w does: one slot of its own level, and what it leaves
pub record Does (m k : ℕ) (w : Work) (b c : ℕ) (ws : List ℕ) (s : Step) : Type 0 where
  pub place : s.write.at ≡ b + w.node * m + (level_move m w.op w.node (level_of m ws b c) (top k (under m k ws b c))).place
  pub slot : s.write.slot ≡ (level_move m w.op w.node (level_of m ws b c) (top k (under m k ws b c))).slot
  pub rest : s.rest ≡ rest_words m k w b c ws
  pub own : s.write.at < b + c * m

abbrev pub LevelPlanned : ℕ → ℕ → ℕ → ℕ → ℕ → Work → List ℕ → Option Step → Type 0
LevelPlanned m b c r u w ws p =
    (k : ℕ) → RoomIs m k r → RoomIs m (pred k) u → (is_some p ≡ work_ok m k w (level_of m ws b c) (top k (under m k ws b c))) × IfSome p (Does m k w b c ws)

-- ---- the writes
abbrev pub no_write : Write
no_write = record { at = 0; slot = record { element = element 0 0 0; count = 0 } }

-- the first n of them done, one after the other
unfoldable pub written : ℕ → List Write → List ℕ → List ℕ
written zero l ws = ws
written (suc n) l ws = write (written n l ws) (get_or l n no_write).at (get_or l n no_write).slot

-- .. and all of them lie within the words
pub record Within (n : ℕ) (l : List Write) (ws : List ℕ) : Type 0 where
  pub few : n ≤ suc record_count
  pub inside : (j : ℕ) → j < n → slot_words * (get_or l j no_write).at + slot_words ≤ length ws

-- ---- all levels: the root with k levels below it, and a record for each of them
pub record Rooted (m k : ℕ) (ws : List ℕ) : Type 0 where
  pub lies : Lies m (suc k) 0 1 0 ws
  pub records : k ≤ record_count

-- the operation's step at the root is in order, and is the one that has been planned
abbrev pub RootPlanned : ℕ → ℕ → RootStep → List ℕ → Type 0
RootPlanned m k h ws = (step_ok m k h.op (node_of m ws 0) (child_of m m ws) ≡ true) × (h.step ≡ node_move m h.op 0 m ws)

-- the cycle in which the operation o, whose step is in order, is done at the root and answered a
unfoldable pub turned_by : ℕ → ℕ → Answer → Op → Bool → State → List ℕ → CycleOutcome
turned_by m k a o mark s ws =
    cond (cycle_ok m k (works_of k s.records 0) (under m k ws 0 1))
    (cycle_outcome a (cycle_words m (suc k) (work o 0, works_of k s.records 0) 0 1 ws) (state_of (records_after m k (rest_words m k (work o 0) 0 1 ws) 0 s.records (under m k ws 0 1)) mark))
    (cycle_outcome (Err Damaged) ws s)
