-- What is promised of the clocked tree is said in these words: the one-at-a-time tree beside it, idle cycles, and 01's causes of refusal.
use Rattle.std.specs.Prelude.{◌&&◌, ◌*◌, ◌+◌, ◌<◌, ◌^◌, ◌∷◌, ◌≡◌, ◌≤◌, ◌⊎◌}
use Rattle.laws.specs.Prelude.{Answer, BadShape, Bool, Damaged, Element, Idle, Ladder, List, NoTag, Pop, Push, Refusal, Replace, Request, TooSoon, [], cond, false, fine, get_or, length, not, number_of, pred, replicate, rung, stop, suc, sum_to, true, zero, ℕ, Ok, None, Some, Err}
use Rattle.tree_clock_model.specs.Calls.{all_levels, asked_ok, cycle_outcome, CycleOutcome, cycle_run, cycle_work, drain_outcome, DrainOutcome, fresh, from_two, rule_now, marks, pending, pops_or_replaces, cycled, steps_ok}
use Rattle.tree_clock_model.specs.Cycle.{Works}
use Rattle.tree_clock_model.specs.Records.{record_at, works_of}
use Rattle.tree_clock_model.specs.declared.State.{State}
use Rattle.promise.specs.Prelude.{Asks, Clock, Step, Stuck, Untagged, answers, grants, hit, last_table, leaves, limits, step, stops}
pub use Rattle.strip.specs.Answers.{has_run, runs_idle}
use Rattle.promise.specs.Flight as flights
use Rattle.tree_model.specs.Prelude.{Agree, Level, Levels, NodeDamaged, Outcome, Shape, IsWork, WorkDamaged, called, four_words, idle, level_at, levels_of, low, op_of, outcome, room, root_of, root_ok, ruling, shape_ok, start, step_level, step_work, stored_count, sum_counts, top, wipe, work}
use Rattle.tree_model.specs.declared.Op.TheVariants.{Nothing}
use Rattle.tree_model.specs.declared.Work.{Work}
pub use Rattle.promise.specs.Drains.{capped, is_bad_shape}

-- ---- the clocked tree as a queue: a list of cycles, each handed the words and the state that the one before left
pub record Machine : Type 0 where
  pub state : State
  pub words : List ℕ

abbrev pub machine : State → List ℕ → Machine
machine s ws = record { state = s; words = ws }

module _ (m levels : ℕ) where
  abbrev pub clocked_queue : Request → Machine → Step Answer Machine
  clocked_queue r x =
      let o = cycled m levels r x.state x.words in
      step o.answer (machine o.state o.words)

  -- what a list of cycles leaves, and so many idle ones
  abbrev pub runs : List Request → State → List ℕ → Machine
  runs rs s ws = leaves clocked_queue rs (machine s ws)

  abbrev pub idles : ℕ → State → List ℕ → Machine
  idles n s ws = runs (replicate n Idle) s ws

  -- any list of cycles from the cleared machine: what it is answered, and what is left
  abbrev pub cleared_machine : List ℕ → Machine
  cleared_machine ws = machine fresh (start m levels ws)

  abbrev pub ran : List Request → List ℕ → Machine
  ran rs ws = leaves clocked_queue rs (cleared_machine ws)

  abbrev pub cycle_answers : List Request → List ℕ → List Answer
  cycle_answers rs ws = answers clocked_queue rs (cleared_machine ws)

  -- ---- the one-at-a-time tree beside it, as a queue of the mark and the words
  -- a pop or replace with the mark on is too soon and is left out; every other request is a call
  unfoldable pub one_by_one : Bool → Request → List ℕ → Outcome
  one_by_one mark r vs = cond (mark && pops_or_replaces r) (outcome (Err TooSoon) vs) (called m levels r vs)

  -- .. the mark going by the answers
  abbrev pub one_by_one_queue : Request → Bool × List ℕ → Step Answer (Bool × List ℕ)
  one_by_one_queue r b =
      let o = one_by_one b.0 r b.1 in
      step o.answer (marks r o.answer, o.words)

  abbrev pub one_by_one_answers : List Request → Bool → List ℕ → List Answer
  one_by_one_answers rs mark vs = answers one_by_one_queue rs (mark, vs)

  abbrev pub one_by_one_words : List Request → Bool → List ℕ → List ℕ
  one_by_one_words rs mark vs = (leaves one_by_one_queue rs (mark, vs)).1

  -- the requests that are not too soon, in order
  unfoldable pub calls_of : List Request → Bool → List ℕ → List Request
  calls_of [] mark vs = []
  calls_of (r ∷ rs) mark vs =
      let o = one_by_one mark r vs in
      cond (mark && pops_or_replaces r) (calls_of rs false vs) (r ∷ calls_of rs (marks r o.answer) o.words)

-- ---- causes: column "Exactly when" of the table of refusals
abbrev pub PopsOrReplaces : Request → Type 0
PopsOrReplaces Idle = ⊥
PopsOrReplaces (Push x) = ⊥
PopsOrReplaces Pop = Unit {0}
PopsOrReplaces (Replace x) = Unit {0}

-- some level's work meets damage: "pending work reads likewise"; "or if a pending record names a node its level lacks"
abbrev pub WorksDamaged : ℕ → (k : ℕ) → Works k → Levels k → Type 0
WorksDamaged m zero p ls = ⊥
WorksDamaged m (suc k) p ls = WorkDamaged m k p.0 ls.0 (top k ls.1) ⊎ WorksDamaged m k p.1 ls.1

-- cause 2 of a cycle: the root of an operation asked for; the step that the operation comes to, "but none below if a later test refuses
-- it"; or a record's step
abbrev pub CycleDamage : ℕ → ℕ → Request → State → List ℕ → Type 0
CycleDamage m levels r s ws =
    (Asks r × NodeDamaged (room m (pred levels)) (root_of m ws))
    ⊎ WorksDamaged m (all_levels levels) (cycle_work m levels (rule_now m levels r s ws).op s) (levels_of m (all_levels levels) ws 0 1)

-- ---- what this tree brings to a clock
abbrev pub clock : ℕ → ℕ → Clock Request Machine
clock m levels =
    record {
      wants = λ r. r;
      call = λ r. r;
      shape_ok = λ x. shape_ok m levels (length x.words);
      Shape = λ x. Shape m levels (length x.words);
      sound_ok = λ r x. asked_ok m levels r x.words && steps_ok m levels (rule_now m levels r x.state x.words).op x.state x.words;
      Torn = λ r x. CycleDamage m levels r x.state x.words;
      late = λ r x. stops TooSoon (x.state.mark && pops_or_replaces r) (PopsOrReplaces r × (x.state.mark ≡ true)) (last_table r (sum_counts (root_of m x.words)) (room m levels));
      gives = λ r x. grants r (low (root_of m x.words));
      moves = λ r x. let o = cycle_run m levels r (ruling (grants r (low (root_of m x.words))) (op_of r)) x.state x.words in machine o.state o.words;
      root_ok = λ x. root_ok m levels x.words;
      RootTorn = λ x. NodeDamaged (room m (pred levels)) (root_of m x.words);
      held = λ x. sum_counts (root_of m x.words);
      wipe = λ x. machine fresh (wipe (room m levels) x.words);
      pending = λ x. pending m levels x.state;
    }

-- the table, in order: "Order for the tree: 1, 2, 3, then 5 or 6", and 7 "after 3 in the clocked tree". 4 is the bucket queue's
abbrev pub cycle_refusals : ℕ → ℕ → Request → State → List ℕ → Ladder Refusal
cycle_refusals m levels r s ws =
    rung BadShape (Shape m levels (length ws))
    (stop Damaged (CycleDamage m levels r s ws)
    (stop TooSoon (PopsOrReplaces r × (s.mark ≡ true))
    (stop NoTag (Untagged r)
    (limits r (sum_counts (root_of m ws)) (room m levels) fine))))

-- column "Left behind" (`runs_idle` of `strip`)
abbrev pub cycle_left : ℕ → ℕ → State → List ℕ → Refusal → CycleOutcome
cycle_left m levels s ws n =
    let x = cond {A = Machine} (runs_idle n) (idles m levels 1 s ws) (machine s ws) in
    cycle_outcome (Err n) x.words x.state

-- a refused drain: within the budget and with work pending all along, so many idle cycles run and the next meets damage
abbrev pub Jams : ℕ → ℕ → ℕ → ℕ → State → List ℕ → Type 0
Jams m levels budget cycles s ws =
    Stuck (clocked_queue m levels) (λ x. pending m levels x.state) (λ x. CycleDamage m levels Idle x.state x.words) budget cycles (machine s ws)

abbrev pub drain_refusals : ℕ → ℕ → ℕ → State → List ℕ → Ladder Refusal
drain_refusals m levels budget s ws = rung BadShape (Shape m levels (length ws)) (stop Damaged ((n : ℕ) × Jams m levels budget n s ws) fine)

-- "Drain stops at 2 and reports the cycles already run, work left; at 1 it reports 0 and no work left"
abbrev pub drain_left : ℕ → ℕ → ℕ → State → List ℕ → Refusal → DrainOutcome
drain_left m levels cycles s ws n =
    let ran = cond (is_bad_shape n) 0 cycles in
    drain_outcome (Err n) ran (not (is_bad_shape n)) (idles m levels ran s ws).words (idles m levels ran s ws).state

-- ---- one step: what a cycle with no damage does to the levels and the records, by what stood at its start. The topmost level is 0
module _ (m levels : ℕ) where
  -- level i as it stands
  abbrev pub level_now : List ℕ → ℕ → Level
  level_now ws i = level_at levels (levels_of m levels ws 0 1) i

  -- "Level 1 does the requested operation's root step; a level with pending work does that node's step": the work of level i
  abbrev pub level_work : Request → State → List ℕ → ℕ → Work
  level_work r s ws zero = work (rule_now m levels r s ws).op 0
  level_work r s ws (suc i) = record_at s.records i

  -- what a step at level i leaves for the next level
  abbrev pub leave_below : List ℕ → ℕ → Work → Work
  leave_below ws i w = step_work m w (level_now ws i) (level_now ws (suc i))

-- a record: q is what the level above leaves for it, w what it was, v what it is then
pub record Recorded (q w v : Work) : Type 0 where
  -- "it loads the next level's record"
  pub loaded : IsWork q.op → v ≡ q
  -- work done and nothing loaded: "Numbers that a record's kind doesn't use are written 0"
  pub finished : q.op ≡ Nothing → IsWork w.op → v ≡ record { op = Nothing; node = 0 }
  -- "A level with nothing to do changes no word"
  pub stands : q.op ≡ Nothing → w.op ≡ Nothing → v ≡ w

-- the first slot of level i: M + M² + … + M^i stand above it
abbrev pub first_slot : ℕ → ℕ → ℕ
first_slot m i = sum_to i (λ a. m ^ suc a)

pub record OneStep (m levels : ℕ) (r : Request) (s : State) (ws : List ℕ) : Type 0 where
  -- "every level reads what stood at the cycle's start and writes only its own level": each is what its own step makes of it
  pub each : (i : ℕ) → i < levels → level_now m levels (cycled m levels r s ws).words i ≡ step_level m (level_work m levels r s ws i) (level_now m levels ws i) (level_now m levels ws (suc i))
  -- .. that is one slot at the most: every other one stands
  pub slot : ℕ → ℕ
  pub others : (i q : ℕ) → i < levels → q < m ^ suc i → (q ≡ slot i → ⊥) → four_words (cycled m levels r s ws).words (first_slot m i + q) ≡ four_words ws (first_slot m i + q)
  -- .. and none of a level with nothing to do
  pub still : (i q : ℕ) → i < levels → q < m ^ suc i → (level_work m levels r s ws i).op ≡ Nothing → four_words (cycled m levels r s ws).words (first_slot m i + q) ≡ four_words ws (first_slot m i + q)
  -- no word past the capacity changes
  pub past : (a : ℕ) → 4 * room m levels ≤ a → get_or (cycled m levels r s ws).words a 0 ≡ get_or ws a 0
  -- each record is what the level above leaves for it, or is done with, or stands
  pub records : (i : ℕ) → suc i < levels → Recorded (leave_below m levels ws i (level_work m levels r s ws i)) (get_or s.records i idle) (get_or (cycled m levels r s ws).state.records i idle)
  -- the last level leaves nothing
  pub last : (leave_below m levels ws (from_two levels) (level_work m levels r s ws (from_two levels))).op ≡ Nothing
  -- "records past the last level are left alone"
  pub spare : (j : ℕ) → from_two levels ≤ j → get_or (cycled m levels r s ws).state.records j idle ≡ get_or s.records j idle

-- an operation's work on its way down: w at level i in this cycle, what it leaves at level i + 1 in the next, whatever is asked then
abbrev pub flight : (m levels i : ℕ) → Work → List Request → Machine → Work
flight m levels = flights.flight (clocked_queue m levels) (λ i w x y. leave_below m levels x.words i w)

-- ---- what is never read. Two machines are alike where they agree on the words of the shape, on the work of the records of its levels, and on the
-- mark: words behind, records past the last level, and numbers that a record's kind does not use may differ
pub record Alike (m levels : ℕ) (x y : Machine) : Type 0 where
  pub words : Agree (room m levels) x.words y.words
  pub works : works_of (from_two levels) x.state.records 0 ≡ works_of (from_two levels) y.state.records 0
  pub mark : x.state.mark ≡ y.state.mark

-- ---- REPLACE: "a replace is a pop and then a push" (02 [4]), of the machine x and an e that has a tag. The words may lie elsewhere, but what is
-- answered and what is held is the same
module _ (m levels : ℕ) where
  -- n idle cycles leave nothing pending, and then so many elements that pass the test are stored
  abbrev pub Rests : ℕ → Machine → Type 0
  Rests n x = pending m levels (idles m levels n x.state x.words).state ≡ false

  abbrev pub stored_then : ℕ → Machine → (Element → Bool) → ℕ
  stored_then n x f = stored_count (room m levels) (idles m levels n x.state x.words).words f

  pub record PopThenPush (e : Element) (x : Machine) : Type 0 where
    -- the cycle is answered as a pop's is there, refusals too ..
    pub answer : (clocked_queue m levels (Replace e) x).said ≡ (clocked_queue m levels Pop x).said
    -- .. and refused it leaves what the refused pop leaves
    pub refused : (number_of (clocked_queue m levels (Replace e) x).said ≡ 0 → ⊥) → clocked_queue m levels (Replace e) x ≡ clocked_queue m levels Pop x
    -- not refused, a push in the cycle after the pop is taken ..
    pub taken : number_of (clocked_queue m levels (Replace e) x).said ≡ 0 → (clocked_queue m levels (Push e) (clocked_queue m levels Pop x).next).said ≡ Ok None
    -- .. and, idled, of every kind of element as many are stored as after those two cycles; levels - 1 idle cycles are enough
    pub idled : Rests (from_two levels) x × Rests (from_two levels) (clocked_queue m levels (Replace e) x).next × Rests (from_two levels) (leaves (clocked_queue m levels) (Pop ∷ Push e ∷ []) x)
    pub stores : number_of (clocked_queue m levels (Replace e) x).said ≡ 0 → (i j : ℕ) → Rests i (clocked_queue m levels (Replace e) x).next → Rests j (leaves (clocked_queue m levels) (Pop ∷ Push e ∷ []) x)
        → (f : Element → Bool) → stored_then i (clocked_queue m levels (Replace e) x).next f ≡ stored_then j (leaves (clocked_queue m levels) (Pop ∷ Push e ∷ []) x) f
    -- that is what would have been stored without it, less what is answered, and the newcomer
    pub swapped : (o : Element) → (clocked_queue m levels (Replace e) x).said ≡ Ok (Some o) → (i j : ℕ) → Rests i (clocked_queue m levels (Replace e) x).next → Rests j x
        → (f : Element → Bool) → stored_then i (clocked_queue m levels (Replace e) x).next f + hit (f o) ≡ stored_then j x f + hit (f e)
