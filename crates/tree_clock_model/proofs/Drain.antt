-- A drain is so many idle cycles: none once nothing is pending, no more than the budget, and it stops at damage.
use Rattle.laws.specs.Prelude.{Answer, BadShape, Damaged, Exactly, Idle, List, Refusal, Request, ◌<◌, ◌≡◌, ◌≤◌, ap, arith, false, left_behind, length, not, number_of, pred, refl, refusal_number, subst, suc, sym, true, ℕ, Ok, None, Err}
use Rattle.tree_clock_model.proofs.Clock.{lead-quiet}
use Rattle.tree_clock_model.proofs.Demand.{lead, cycle_run-lead}
use Rattle.tree_clock_model.proofs.Exactly.{cycled-either, run_length, timed}
use Rattle.tree_clock_model.proofs.Turn.{after-length}
use Rattle.tree_clock_model.specs.Prelude.{DrainOutcome, Jams, Machine, State, capped, clock, clocked_queue, cycle_run, cycled, drain_from, drain_left, drain_outcome, drain_refusals, drains, idles, machine, pending}
use Rattle.promise.proofs.Clock.{idle-ran}
use Rattle.promise.proofs.Drains as drain
use Rattle.promise.proofs.Handed.{exactly-as}
use Rattle.promise.specs.Prelude.{Close, Drained, Step, drained_by, stopped}
use Rattle.promise.specs.Drains as close
use Rattle.tree_model.specs.Prelude.{Shape, ruling, shape_ok, under}
use Rattle.tree_model.specs.declared.Op.TheVariants.{Nothing}

-- every cycle keeps the slice's length
pub cycled-length : (m levels : ℕ) (r : Request) (s : State) (ws : List ℕ) → length (cycled m levels r s ws).words ≡ length ws
cycled-length m levels r s ws = cycled-either m levels r s ws (λ c. length c.words ≡ length ws) refl refl (λ e f. run_length m levels r _ s ws)

-- ---- how a drain with the budget b ends after so many idle cycles: done, with nothing pending or the budget spent; or jammed
pub data End (m levels b more : ℕ) (s : State) (ws : List ℕ) (d : DrainOutcome) : Type 0 where
  done : d.answer ≡ Ok None → (d.left ≡ true → more ≡ b) → End m levels b more s ws d
  jammed : d.answer ≡ Err Damaged → d.left ≡ true → Jams m levels b more s ws → End m levels b more s ws d

-- ---- this machine's drain is its clock's (`promise/proofs/Drains.antt`): what follows is said of it under the law's words
module _ (m levels : ℕ) where
  abbrev shown : Drained Machine → DrainOutcome
  shown d = drain_outcome d.answer d.cycles d.left d.state.words d.state.state

  module _ (b : ℕ) (s : State) (ws : List ℕ) where
    abbrev x : Machine
    x = machine s ws

    pub drains-as : drains m levels b s ws ≡ shown (drained_by (clock m levels) (clocked_queue m levels) b x)
    unfolding drains drain_from
    drains-as =
        drain.drains-shown (clocked_queue m levels) (clock m levels).pending shown (λ b n x. drain_from m levels b n x.state x.words) (λ n x. refl) (λ b n x. refl) ((clock m levels).shape_ok x) b x

    pub drain-bad : shape_ok m levels (length ws) ≡ false → drains m levels b s ws ≡ drain_outcome (Err BadShape) 0 false ws s
    unfolding drains
    drain-bad e = rw e

    -- DRAIN-STATE: "The state left is that of exactly so many idle cycles", whatever is drained
    pub drain-state : ((drains m levels b s ws).words ≡ (idles m levels (drains m levels b s ws).cycles s ws).words)
        × ((drains m levels b s ws).state ≡ (idles m levels (drains m levels b s ws).cycles s ws).state)
    drain-state = let e = drain.drain-state (timed m levels) b x in rw drains-as (ap (λ (y : Machine). y.words) e, ap (λ (y : Machine). y.state) e)

    -- "none is run once nothing is pending", and none past the budget
    pub drain-needed : (j : ℕ) → j < (drains m levels b s ws).cycles → pending m levels (idles m levels j s ws).state ≡ true
    drain-needed = rw drains-as (drain.drain-needed (timed m levels) b x)

    pub drain-within : (drains m levels b s ws).cycles ≤ b
    drain-within = rw drains-as (drain.drain-within (timed m levels) b x)

    -- DRAIN-RAN: "reports the cycles already run": each of them ran unrefused
    pub drain-ran : (j : ℕ) → j < (drains m levels b s ws).cycles → number_of (cycled m levels Idle (idles m levels j s ws).state (idles m levels j s ws).words).answer ≡ 0
    drain-ran = rw drains-as (drain.drain-ran (timed m levels) b x)

    -- DRAIN-STOPS: "Drain stops at 2 and reports the cycles already run": the cycle after exactly so many idle cycles is the one that meets damage
    pub drain-stops : number_of (drains m levels b s ws).answer ≡ 2 → Jams m levels b (drains m levels b s ws).cycles s ws
    drain-stops = rw drains-as (drain.drain-stops (timed m levels) b x)

    -- KIND: a drain that is not refused is done
    pub drain-kind : number_of (drains m levels b s ws).answer ≡ 0 → (drains m levels b s ws).answer ≡ Ok None
    drain-kind = rw drains-as (drain.drain-kind (timed m levels) b x)

    module _ (sh : Shape m levels (length ws)) where
      -- DRAIN-ENDS: done, with no work left or the budget spent; or stopped at 2 with work left, where the cycle after exactly so many meets damage
      pub drain-ends : End m levels b (drains m levels b s ws).cycles s ws (drains m levels b s ws)
      drain-ends = rw drains-as (go (drain.drain-ends (timed m levels) b x sh))
        where
          go : {d : Drained Machine} → Close (clocked_queue m levels) (clock m levels).pending ((clock m levels).Torn Idle) b d.cycles x d → End m levels b d.cycles s ws (shown d)
          go (close.done a l) = done a l
          go (stopped a l j) = jammed a l j

      -- "whether work is left"
      pub drain-left : (drains m levels b s ws).left ≡ pending m levels (drains m levels b s ws).state
      drain-left = rw drains-as (drain.drain-left (timed m levels) b x sh)

      -- with work left and no damage the budget is spent
      pub drain-spent : number_of (drains m levels b s ws).answer ≡ 0 → (drains m levels b s ws).left ≡ true → (drains m levels b s ws).cycles ≡ b
      drain-spent = rw drains-as (drain.drain-spent (timed m levels) b x sh)

      -- DRAIN-COUNT: where no cycle is refused and n idle cycles are those until nothing is pending, the count is n capped by the budget
      pub drain-count : number_of (drains m levels b s ws).answer ≡ 0 → (n : ℕ) → pending m levels (idles m levels n s ws).state ≡ false
          → ((j : ℕ) → j < n → pending m levels (idles m levels j s ws).state ≡ true) → (drains m levels b s ws).cycles ≡ capped b n
      drain-count = rw drains-as (drain.drain-count (timed m levels) b x sh)

    -- EXACTLY: a drain is refused for the shape, or where an idle cycle within the budget meets damage, and leaves behind what the rule says
    pub exactly-drain : Exactly (λ (d : DrainOutcome). number_of d.answer) (drain_left m levels (drains m levels b s ws).cycles s ws) (drains m levels b s ws) (drain_refusals m levels b s ws)
    exactly-drain = rw drains-as (exactly-as _ _ shown (λ d. number_of d.answer) (λ d. refl) _ _ (drain.exactly-drain (timed m levels) b x))

    -- "Drain stops at 2 and reports the cycles already run, work left; at 1 it reports 0 and no work left"
    pub drain-refused : (n : Refusal) → number_of (drains m levels b s ws).answer ≡ refusal_number n → drains m levels b s ws ≡ drain_left m levels (drains m levels b s ws).cycles s ws n
    drain-refused = left_behind _ _ exactly-drain

-- ---- DRAIN-FEW: whatever the state and the budget, no more cycles are run than there are levels from 2: each leaves one more level with
-- nothing to do
module _ (m levels : ℕ) where
  cycle_run-records : (s : State) (ws : List ℕ) → length (cycle_run m levels Idle (ruling (Ok None) Nothing) s ws).state.records ≡ length s.records
  unfolding cycle_run
  cycle_run-records s ws = after-length m (pred levels) _ 0 s.records (under m (pred levels) ws 0 1)

  abbrev led : ℕ → Machine → Type 0
  led i x = (pred levels ≤ length x.state.records) × lead m levels i x.state

  more-led : (i : ℕ) (x : Machine) → number_of (clocked_queue m levels Idle x).said ≡ 0 → led i x → led (suc i) (clocked_queue m levels Idle x).next
  more-led i x z l =
      subst (λ (s : Step Answer Machine). led (suc i) s.next) (sym (idle-ran (timed m levels) x z)) (
        omega (arith, l.0, cycle_run-records x.state x.words),
        cycle_run-lead m levels i x.state x.words l.0 l.1,
      )

  all-led : (x : Machine) → led (pred levels) x → pending m levels x.state ≡ false
  all-led x l = ap not (lead-quiet (pred levels) (pred levels) _ (omega arith) l.1)

  pub drain-few : (b : ℕ) (s : State) (ws : List ℕ) → pred levels ≤ length s.records → (drains m levels b s ws).cycles ≤ pred levels
  drain-few b s ws len =
      rw (drains-as m levels b s ws)
      (drain.drain-few (timed m levels) (pred levels) led more-led all-led b (machine s ws) (len, tt))
