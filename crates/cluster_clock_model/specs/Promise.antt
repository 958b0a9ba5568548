-- What is promised of the clocked cluster heap is said in these words: the machine over a list of cycles, the causes of refusal, each level's one step, and what
-- is held in the middle of any work.
use Rattle.std.specs.Prelude.{◌&&◌, ◌*◌, ◌+◌, ◌<◌, ◌≡◌, ◌≤◌, ◌⊎◌}
use Rattle.laws.specs.Prelude.{Answer, BadShape, Bool, Damaged, Element, Idle, Ladder, List, NoTag, Refusal, Request, cond, false, fine, length, ltb, not, pred, replicate, rung, runs_idle, stop, suc, sum_to, zero, ℕ, Err}
use Rattle.promise.specs.Prelude.{Asks, Clock, SoleCall as Call, Step, Stuck as StuckAt, Untagged, answers, cycle, drain, grants, hit, is_bad_shape, last_table, leaves, limits, step}
use Rattle.cluster_clock_model.specs.declared.Due.{Due}
use Rattle.cluster_clock_model.specs.declared.Due.TheVariants.{Fill, Nothing, Put, Swap}
use Rattle.cluster_clock_model.specs.declared.Stage.{Stage}
use Rattle.cluster_clock_model.specs.Calls.{asked_ok, drain_outcome, DrainOutcome, drains, fresh, pending, cycled, cycle_outcome, CycleOutcome}
use Rattle.cluster_clock_model.specs.Stage.{below, handed, level_stage, level_words, low_at, no_stage, pass, stage_at, work, Work}
use Rattle.cluster_clock_model.specs.Test.{sane_at, stages_ok}
use Rattle.cluster_model.specs.Prelude.{Agree, AnyTo, PlaceDamaged, Shape, Side, Stuck, child, extent, gap, has, held_in, lhs, low_elem, flagged, node_in, none, op_of, place_at, rhs, room, rule_at, shape_ok, start, stored_count, wipe, word}
use Rattle.promise.specs.Flight as flights

-- ---- the clocked heap as a queue: a list of cycles, each handed the words and the records that the one before left
pub record Machine : Type 0 where
  pub records : List Stage
  pub words : List ℕ

abbrev pub machine : List Stage → List ℕ → Machine
machine rs ws = record { records = rs; words = ws }

module _ (K levels : ℕ) where
  abbrev pub cycle_queue : Request → Machine → Step Answer Machine
  cycle_queue r x =
      let o = cycled K levels r x.records x.words in
      step o.answer (machine o.records o.words)

  -- so many idle cycles
  abbrev pub idles : ℕ → Machine → Machine
  idles n x = leaves cycle_queue (replicate n Idle) x

  -- any list of cycles from the cleared machine: what is left, and what it is answered
  abbrev pub cleared_machine : List ℕ → Machine
  cleared_machine ws = machine fresh (start K levels ws)

  abbrev pub ran : List Request → List ℕ → Machine
  ran rs ws = leaves cycle_queue rs (cleared_machine ws)

  abbrev pub cycle_answers : List Request → List ℕ → List Answer
  cycle_answers rs ws = answers cycle_queue rs (cleared_machine ws)

  -- nothing is pending
  abbrev pub AtRest : Machine → Type 0
  AtRest x = pending K levels x.records ≡ false

-- ---- causes: column "Exactly when" of the table of refusals
module _ (K : ℕ) where
  -- C2: a damaged place; a count above what a child has room for; something below, and more than one place not flagged
  abbrev pub NodeTorn : ℕ → List ℕ → ℕ → Type 0
  NodeTorn limit ws m =
      AnyTo K (λ j. PlaceDamaged ws (m * (2 + K * 4) + 2 + j * 4))
      ⊎ ((limit < (node_in K ws m).left) ⊎ ((limit < (node_in K ws m).right) ⊎ ((0 < (node_in K ws m).left + (node_in K ws m).right) × (flagged (node_in K ws m) + 1 < K))))

  -- C5: a child of this count that is read for its lowest: only where the count is not 0. It must have an element
  abbrev pub ChildTorn : ℕ → ℕ → List ℕ → ℕ → Type 0
  ChildTorn count limit ws m = (0 < count) × (NodeTorn limit ws m ⊎ (flagged (node_in K ws m) ≡ 0))

  -- a node that waits: the node, nothing below it (C3), its children. These have k levels below them
  abbrev pub WaitTorn : ℕ → ℕ → List ℕ → Type 0
  WaitTorn k m ws =
      NodeTorn (room K (suc k)) ws m
      ⊎ (((node_in K ws m).left + (node_in K ws m).right ≡ 0)
      ⊎ (ChildTorn (node_in K ws m).left (room K k) ws (child m lhs) ⊎ ChildTorn (node_in K ws m).right (room K k) ws (child m rhs)))

  -- a record below the level whose first node is number a: C1, a node that its level lacks, or a place that is not below K; C3, a fill's place is flagged, a
  -- swap's is not; C4, a put finds no room; and what it reads
  abbrev pub StageTorn : ℕ → Due → ℕ → ℕ → List ℕ → Type 0
  StageTorn k Nothing n a ws = ⊥
  StageTorn k (Put y) n a ws = (2 * (a + 1) ≤ n) ⊎ (NodeTorn (room K k) ws (below a + n) ⊎ Stuck K (room K k) (node_in K ws (below a + n)))
  StageTorn k (Fill j) n a ws = (a + 1 ≤ n) ⊎ ((K ≤ j) ⊎ ((place_at (node_in K ws (a + n)).places j ≡ gap → ⊥) ⊎ WaitTorn k (a + n) ws))
  StageTorn k (Swap j x) n a ws = (a + 1 ≤ n) ⊎ ((K ≤ j) ⊎ ((place_at (node_in K ws (a + n)).places j ≡ gap) ⊎ WaitTorn k (a + n) ws))

  -- some record is
  abbrev pub StagesTorn : (k : ℕ) → ℕ → ℕ → List Stage → List ℕ → Type 0
  StagesTorn zero a i rs ws = ⊥
  StagesTorn (suc k) a i rs ws = StageTorn k (stage_at rs i).due (stage_at rs i).node a ws ⊎ StagesTorn k (below a) (suc i) rs ws

  -- cause 2 of a cycle: the root of an operation asked for, or what a record names and reads
  abbrev pub CycleDamage : ℕ → Request → List Stage → List ℕ → Type 0
  CycleDamage levels r rs ws = (Asks r × NodeTorn (room K (pred levels)) ws 0) ⊎ StagesTorn (pred levels) 0 0 rs ws

-- ---- what this heap brings to a clock
abbrev pub clock : ℕ → ℕ → Clock Request Machine
clock K levels =
    record {
      wants = λ r. r;
      call = λ r. r;
      shape_ok = λ x. shape_ok K levels (length x.words);
      Shape = λ x. Shape K levels (length x.words);
      sound_ok = λ r x. asked_ok K levels r x.words && stages_ok K (pred levels) 0 0 x.records x.words;
      Torn = λ r x. CycleDamage K levels r x.records x.words;
      late = λ r x. last_table r (held_in K levels x.words) (room K levels);
      gives = λ r x. grants r (low_elem (node_in K x.words 0).places);
      moves = λ r x. let p = pass K (pred levels) 0 (work (op_of r) 0) 0 x.records x.words in machine p.records p.words;
      root_ok = λ x. sane_at K (room K (pred levels)) x.words 0;
      RootTorn = λ x. NodeTorn K (room K (pred levels)) x.words 0;
      held = λ x. held_in K levels x.words;
      wipe = λ x. machine fresh (wipe (extent K levels 1) x.words);
      pending = λ x. pending K levels x.records;
    }

-- the table, in order: 1, 2, 7, then 5 or 6. There is no 3
abbrev pub cycle_refusals : ℕ → ℕ → Request → List Stage → List ℕ → Ladder Refusal
cycle_refusals K levels r rs ws =
    rung BadShape (Shape K levels (length ws))
    (stop Damaged (CycleDamage K levels r rs ws)
    (stop NoTag (Untagged r)
    (limits r (held_in K levels ws) (room K levels) fine)))

-- column "Left behind": after 1 and 2 everything, records too; after the others the "cycle runs as idle"
abbrev pub cycle_left : ℕ → ℕ → List Stage → List ℕ → Refusal → CycleOutcome
cycle_left K levels rs ws n =
    let x = cond {A = Machine} (runs_idle n) (idles K levels 1 (machine rs ws)) (machine rs ws) in
    cycle_outcome (Err n) x.words x.records

-- .. of held, which reads the root alone
abbrev pub held_refusals : ℕ → ℕ → List ℕ → Ladder Refusal
held_refusals K levels ws = rung BadShape (Shape K levels (length ws)) (stop Damaged (NodeTorn K (room K (pred levels)) ws 0) fine)

-- a refused drain: within the budget and with work pending all along, so many idle cycles run and the next meets damage
abbrev pub Jams : ℕ → ℕ → ℕ → ℕ → Machine → Type 0
Jams K levels budget cycles x = StuckAt (cycle_queue K levels) (λ x. pending K levels x.records) (λ x. CycleDamage K levels Idle x.records x.words) budget cycles x

abbrev pub drain_refusals : ℕ → ℕ → ℕ → List Stage → List ℕ → Ladder Refusal
drain_refusals K levels budget rs ws = rung BadShape (Shape K levels (length ws)) (stop Damaged ((n : ℕ) × Jams K levels budget n (machine rs ws)) fine)

-- "Drain stops at 2 and reports the cycles already run, work left; at 1 it reports 0 and no work left"
abbrev pub drain_left : ℕ → ℕ → ℕ → List Stage → List ℕ → Refusal → DrainOutcome
drain_left K levels cycles rs ws n =
    let ran = cond (is_bad_shape n) 0 cycles in
    drain_outcome (Err n) ran (not (is_bad_shape n)) (idles K levels ran (machine rs ws)).words (idles K levels ran (machine rs ws)).records

-- ---- one step: what a cycle with no damage does to each level and its record, by what stood at its start. The topmost level is 0
-- the number of the first node of level i
unfoldable pub first_node : ℕ → ℕ
first_node zero = 0
first_node (suc i) = below (first_node i)

-- the node of the upper level at which a record waits
abbrev pub WaitsAt : Due → ℕ → ℕ → Type 0
WaitsAt Nothing m n = ⊥
WaitsAt (Put y) m n = ⊥
WaitsAt (Fill j) m n = n ≡ m
WaitsAt (Swap j x) m n = n ≡ m

abbrev pub Waits : Stage → ℕ → Type 0
Waits q n = WaitsAt q.due q.node n

-- the nodes of the lower level that a record gives something to do: a put's own; of a node that waits, its two children
abbrev pub GivenAt : Due → ℕ → ℕ → Type 0
GivenAt Nothing m n = ⊥
GivenAt (Put y) m n = n ≡ m
GivenAt (Fill j) m n = (n ≡ m + m) ⊎ (n ≡ m + m + 1)
GivenAt (Swap j x) m n = (n ≡ m + m) ⊎ (n ≡ m + m + 1)

abbrev pub Given : Stage → ℕ → Type 0
Given q n = GivenAt q.due q.node n

module _ (K levels : ℕ) where
  -- the record below level i; the last level has none
  abbrev pub stage_below : List Stage → ℕ → Stage
  stage_below rs i = cond (ltb (suc i) levels) (stage_at rs i) no_stage

  -- the work of level i: the root's is what the request comes to, another's what the record above it hands down
  unfoldable pub work_of : Request → List Stage → List ℕ → ℕ → Work
  work_of r rs ws zero = work (rule_at K levels r ws).op 0
  work_of r rs ws (suc i) = handed K (stage_at rs i).due (stage_at rs i).node (first_node i) ws

  -- node n of level i has something to do, by the request and the records at the cycle's start: at the root what the request comes to; elsewhere a put at the node, or a
  -- fill or swap that waits at its parent; and a fill or swap that waits at the node itself
  abbrev pub Busy : Request → List Stage → List ℕ → ℕ → ℕ → Type 0
  Busy r rs ws zero n = ((rule_at K levels r ws).op ≡ none → ⊥) ⊎ Waits (stage_below rs 0) n
  Busy r rs ws (suc i) n = Given (stage_at rs i) n ⊎ Waits (stage_below rs (suc i)) n

  -- the words of level i
  abbrev pub InLevel : ℕ → ℕ → Type 0
  InLevel i p = (first_node i * (2 + K * 4) ≤ p) × (p < first_node (suc i) * (2 + K * 4))

  -- .. and those of node m
  abbrev pub InNode : ℕ → ℕ → Type 0
  InNode m p = (m * (2 + K * 4) ≤ p) × (p < m * (2 + K * 4) + (2 + K * 4))

  pub record OneStep (r : Request) (rs : List Stage) (ws : List ℕ) : Type 0 where
    -- "registered reads, writes to the own level only": node n of level i is what the level's own step makes of it, on the words as they stood at the cycle's
    -- start ..
    pub each : (i n : ℕ) → i < levels → n < first_node i + 1
        → node_in K (cycled K levels r rs ws).words (first_node i + n)
        ≡ node_in K (level_words K (first_node i) (work_of r rs ws i) (stage_below rs i) ws) (first_node i + n)
    -- .. word by word
    pub words : (i p : ℕ) → i < levels → InLevel i p → word (cycled K levels r rs ws).words p ≡ word (level_words K (first_node i) (work_of r rs ws i) (stage_below rs i) ws) p
    -- .. a step that changes no word of another level
    pub own : (i : ℕ) → i < levels → (p : ℕ) → (p < first_node i * (2 + K * 4)) ⊎ (first_node (suc i) * (2 + K * 4) ≤ p)
        → word (level_words K (first_node i) (work_of r rs ws i) (stage_below rs i) ws) p ≡ word ws p
    -- a node with nothing to do stands ..
    pub stands : (i n p : ℕ) → i < levels → n < first_node i + 1 → (Busy r rs ws i n → ⊥) → InNode (first_node i + n) p → word (cycled K levels r rs ws).words p ≡ word ws p
    -- .. and so a level with nothing to do changes no word
    pub still : (i p : ℕ) → i < levels → ((n : ℕ) → n < first_node i + 1 → Busy r rs ws i n → ⊥) → InLevel i p → word (cycled K levels r rs ws).words p ≡ word ws p
    -- no word past the shape's changes
    pub past : (p : ℕ) → extent K levels 1 ≤ p → word (cycled K levels r rs ws).words p ≡ word ws p
    -- each record is what the level above leaves for it, else nothing: it lives for one cycle
    pub loads : (i : ℕ) → suc i < levels → stage_at (cycled K levels r rs ws).records i ≡ level_stage K (first_node i) (work_of r rs ws i) (stage_at rs i) ws
    -- a record of nothing is zeros: "What is not loaded is written as nothing with all numbers 0"
    pub zeros : (i : ℕ) → suc i < levels → (stage_at (cycled K levels r rs ws).records i).due ≡ Nothing → (stage_at (cycled K levels r rs ws).records i).node ≡ 0
    -- the last level leaves nothing
    pub last : level_stage K (first_node (pred levels)) (work_of r rs ws (pred levels)) no_stage ws ≡ no_stage
    -- records past the last level are left alone
    pub spare : (j : ℕ) → pred levels ≤ j → stage_at (cycled K levels r rs ws).records j ≡ stage_at rs j

  -- what level i reads in a cycle: its own words and the record below it; of a node that waits in it the two children; of the level above the record between, and a node
  -- that waits there, whose two children are its own. The request is the root's alone. Two machines with the same of it
  pub record Reads (i : ℕ) (r t : Request) (rs qs : List Stage) (ws vs : List ℕ) : Type 0 where
    pub own : (p : ℕ) → InLevel i p → word ws p ≡ word vs p
    pub below : stage_below rs i ≡ stage_below qs i
    pub children : (n : ℕ) → Waits (stage_below rs i) n → (s : Side) (p : ℕ) → InNode (child (first_node i + n) s) p → word ws p ≡ word vs p
    pub asked : i ≡ 0 → r ≡ t
    pub above : (h : ℕ) → i ≡ suc h → stage_at rs h ≡ stage_at qs h
    pub waiting : (h : ℕ) → i ≡ suc h → (n : ℕ) → Waits (stage_at rs h) n → (p : ℕ) → InNode (first_node h + n) p → word ws p ≡ word vs p

-- what the work w of level i leaves below, in a cycle that leads from x to y, is what the record gives level i + 1 to do in y
abbrev pub leave_below : ℕ → ℕ → ℕ → Work → Machine → Machine → Work
leave_below K levels i w x y = let q = level_stage K (first_node i) w (stage_below K levels x.records i) x.words in handed K q.due q.node (first_node i) y.words

-- an operation's work on its way down: w at level i in this cycle, what it leaves at level i + 1 in the next, whatever is asked then
abbrev pub flight : (K levels i : ℕ) → Work → List Request → Machine → Work
flight K levels = flights.flight (cycle_queue K levels) (leave_below K levels)

-- "a gap filled from below one cycle later": place j of node m, empty in ws with something below it, is not in vs; and where no put is done there in that cycle, it has the
-- lowest of one of the two children as they stood
pub record Filled (K m j : ℕ) (NoPut : Type 0) (ws vs : List ℕ) : Type 0 where
  pub element : Element
  pub holds : place_at (node_in K vs m).places j ≡ has element
  pub lifted : NoPut → (element ≡ low_at K ws (child m lhs)) ⊎ (element ≡ low_at K ws (child m rhs))

-- ---- "Nothing lost in flight" (02 [14]), for this heap
-- what pending puts carry. A fill's place is a gap, and a swap's element stands in its place: nothing stands twice, and nothing is struck out
abbrev pub carries : Due → (Element → Bool) → ℕ
carries Nothing f = 0
carries (Put y) f = hit (f y)
carries (Fill j) f = 0
carries (Swap j x) f = 0

module _ (K levels : ℕ) where
  -- "take the elements in all slots": the places
  abbrev pub in_places : Machine → (Element → Bool) → ℕ
  in_places x f = stored_count K levels x.words f

  -- "add those carried by pending puts"
  unfoldable pub carried_by : Machine → (Element → Bool) → ℕ
  carried_by x f = sum_to (pred levels) (λ i. carries (stage_at x.records i).due f)

  -- "What remains"
  abbrev pub remaining : Machine → (Element → Bool) → ℕ
  remaining x f = in_places x f + carried_by x f

  -- the calls between two clearings: a cycle with any request, a drain with any budget
  abbrev pub machine_queue : Call → Machine → Step Answer Machine
  machine_queue (cycle r) x = cycle_queue K levels r x
  machine_queue (drain b) x =
      let d = drains K levels b x.records x.words in
      step d.answer (machine d.records d.words)

  abbrev pub ran_calls : List Call → List ℕ → Machine
  ran_calls cs ws = leaves machine_queue cs (cleared_machine K levels ws)

  abbrev pub call_answers : List Call → List ℕ → List Answer
  call_answers cs ws = answers machine_queue cs (cleared_machine K levels ws)

-- ---- what is never read. Two machines are alike where they agree on the words of the shape and on the records of its levels, but for the node of a record of
-- nothing: words behind and records past the last level may differ
abbrev pub SameStage : Stage → Stage → Type 0
SameStage p q = (p.due ≡ q.due) × ((p.due ≡ Nothing → ⊥) → p.node ≡ q.node)

pub record Alike (K levels : ℕ) (x y : Machine) : Type 0 where
  pub words : Agree (extent K levels 1) x.words y.words
  pub stages : (i : ℕ) → i < pred levels → SameStage (stage_at x.records i) (stage_at y.records i)
