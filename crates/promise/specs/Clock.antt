-- The calls of a machine that works by clock cycles, once for every such machine: what it has to bring (`Clock`), and from that a cycle (`cycled`), clear and
-- held, their tables of refusals, and what a refused cycle leaves.
use Rattle.laws.specs.Prelude.{Answer, BadShape, Bool, Damaged, Idle, Ladder, Refusal, Request, cond, fine, rung, runs_idle, stop, ℕ, Result, Ok, Err, None}
use Rattle.promise.specs.Calls.{left, Outcome, outcome, Ruling, ruling}
use Rattle.promise.specs.Drains.{Drained, drains_by, idled}
use Rattle.promise.specs.Queue.{step, Step}
use Rattle.promise.specs.Table.{decided, ladder, Table}

-- ---- what a machine brings. M is its state, words and records together; C is what a cycle is handed: a request, or a request at one of several queues
pub record Clock (C M : Type 0) : Type 1 where
  pub wants : C → Request
  -- a cycle with a request at any queue: only `call Idle`, the idle cycle, is used
  pub call : Request → C
  -- 1, asked first; refused everything stands
  pub shape_ok : M → Bool
  pub Shape : M → Type 0
  -- 2, all that the cycle reads; refused everything stands
  pub sound_ok : C → M → Bool
  pub Torn : C → M → Type 0
  -- what a request is asked then: 3 where there is a mark, 7, 5 or 6. Refused the cycle runs as an idle one
  pub late : C → M → Table
  -- a request that is let in: its answer, and what the cycle does
  pub gives : C → M → Answer
  pub moves : C → M → M
  -- held reads this much
  pub root_ok : M → Bool
  pub RootTorn : M → Type 0
  pub held : M → ℕ
  -- what clear leaves
  pub wipe : M → M
  -- is work pending?
  pub pending : M → Bool

-- the calls between two clearings: a cycle, a drain with any budget
pub data Call (C : Type 0) : Type 0 where
  cycle : C → Call C
  drain : ℕ → Call C

-- what a call asks for, seen so: a drain is idle cycles
abbrev pub sees : {C : Type 0} → (C → Request) → Call C → Request
sees seen (cycle c) = seen c
sees seen (drain b) = Idle

-- .. of a machine that has one queue
abbrev pub SoleCall : Type 0
SoleCall = Call Request

abbrev pub asked : SoleCall → Request
asked c = sees (λ r. r) c

module _ {C M : Type 0} (k : Clock C M) where
  -- what a request comes to: refused it is an idle cycle
  abbrev pub comes : C → M → Ruling C
  comes c x = decided (λ n. ruling (Err n) (k.call Idle)) (k.late c x) (ruling (k.gives c x) c)

  abbrev pub goes : Ruling C → M → Outcome M
  goes g x = outcome g.answer (k.moves g.op x)

  abbrev pub cycled : C → M → Outcome M
  cycled c x = cond (k.shape_ok x) (cond (k.sound_ok c x) (goes (comes c x) x) (left x Damaged)) (left x BadShape)

  abbrev pub cycling : C → M → Step Answer M
  cycling c x = step (cycled c x).answer (cycled c x).words

  abbrev pub cleared_to : M → Outcome M
  cleared_to x = cond (k.shape_ok x) (outcome (Ok None) (k.wipe x)) (left x BadShape)

  abbrev pub held_in : M → Result ℕ Refusal
  held_in x = cond (k.shape_ok x) (cond (k.root_ok x) (Ok (k.held x)) (Err Damaged)) (Err BadShape)

  -- ---- the tables of refusals
  abbrev pub cycle_refusals : C → M → Ladder Refusal
  cycle_refusals c x = rung BadShape (k.Shape x) (stop Damaged (k.Torn c x) (ladder (k.late c x) fine))

  abbrev pub wipe_refusals : M → Ladder Refusal
  wipe_refusals x = rung BadShape (k.Shape x) fine

  abbrev pub count_refusals : M → Ladder Refusal
  count_refusals x = rung BadShape (k.Shape x) (stop Damaged (k.RootTorn x) fine)

  -- ---- of a queue that goes as the clock's cycles do: the model's own, under its own name
  module _ (queue : C → M → Step Answer M) where
    -- a cycle with a request at any queue, for drains: only the idle one is used
    abbrev pub asking : Request → M → Step Answer M
    asking r x = queue (k.call r) x

    -- so many idle cycles
    abbrev pub rested : ℕ → M → M
    rested n x = idled asking n x

    -- a drain with a budget
    abbrev pub drained_by : ℕ → M → Drained M
    drained_by b x = drains_by asking k.pending (k.shape_ok x) b x

    -- what a refused cycle leaves
    abbrev pub cycle_left : M → Refusal → Outcome M
    cycle_left x n = outcome (Err n) (cond (runs_idle n) (rested 1 x) x)

    -- cycles and drains
    abbrev pub calls : Call C → M → Step Answer M
    calls (cycle c) x = queue c x
    calls (drain b) x = let d = drained_by b x in step d.answer d.state
