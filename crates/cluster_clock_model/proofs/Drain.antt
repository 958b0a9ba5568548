-- A drain is so many idle cycles. Each leaves one more record of nothing, from the top, so that levels less one are enough.
use Rattle.laws.specs.Prelude.{Answer, BadShape, Exactly, Idle, List, Refusal, ◌+◌, ◌<◌, ◌∙◌, ◌≡◌, ◌≤◌, and-true, ap, arith, false, get_or-set_same, inl, left_behind, length, length-set, not, not-suc-le-zero, number_of, pred, refl, refusal_number, set, subst, suc, sym, true, zero, ℕ, Ok, None, Err}
use Rattle.cluster_clock_model.proofs.Exactly.{ticks}
use Rattle.cluster_clock_model.proofs.Seen.{pass-others, pass-records, set-later}
use Rattle.cluster_clock_model.specs.Prelude.{DrainOutcome, Due, Jams, Machine, Nothing, Stage, Work, begins, below, clock, cycle_queue, cycle_run, cycled, drain_from, drain_left, drain_outcome, drain_refusals, drains, filled, handed, idles, is_nothing, level_stage, level_words, loaded, machine, no_stage, pass, pending, quiet, stage_at, work}
use Rattle.cluster_model.specs.Prelude.{Op, Shape, begin, low, node_in, none, shape_ok}
use Rattle.promise.proofs.Clock.{idle-ran}
use Rattle.promise.proofs.Drains as drain
use Rattle.promise.proofs.Handed.{exactly-as}
use Rattle.promise.specs.Prelude.{Close, Drained, Step, capped, drained, drained_by}

-- ---- this machine's drain is its clock's (`promise/proofs/Drains.antt`): what follows is said of it under the law's words
module _ (K levels : ℕ) where
  abbrev shown : Drained Machine → DrainOutcome
  shown d = drain_outcome d.answer d.cycles d.left d.state.words d.state.records

  -- how a drain with the budget b of the machine x ends
  abbrev pub Ended : ℕ → Machine → DrainOutcome → Type 0
  Ended b x d = Close (cycle_queue K levels) (clock K levels).pending ((clock K levels).Torn Idle) b d.cycles x (drained d.answer d.cycles d.left (machine d.records d.words))

  module _ (b : ℕ) (rs : List Stage) (ws : List ℕ) where
    abbrev x : Machine
    x = machine rs ws

    abbrev d : DrainOutcome
    d = drains K levels b rs ws

    pub drains-as : d ≡ shown (drained_by (clock K levels) (cycle_queue K levels) b x)
    unfolding drains drain_from
    drains-as =
        drain.drains-shown (cycle_queue K levels) (clock K levels).pending shown (λ b n x. drain_from K levels b n x.records x.words) (λ n x. refl) (λ b n x. refl) ((clock K levels).shape_ok x) b x

    pub drain-bad : shape_ok K levels (length ws) ≡ false → drains K levels b rs ws ≡ drain_outcome (Err BadShape) 0 false ws rs
    unfolding drains
    drain-bad e = rw e

    -- DRAIN-STATE: "The state left is that of exactly so many idle cycles", whatever is drained
    pub drain-state : ((drains K levels b rs ws).words ≡ (idles K levels (drains K levels b rs ws).cycles x).words) × ((drains K levels b rs ws).records ≡ (idles K levels (drains K levels b rs ws).cycles x).records)
    drain-state = let e = drain.drain-state (ticks K levels) b x in rw drains-as (ap (λ (y : Machine). y.words) e, ap (λ (y : Machine). y.records) e)

    -- DRAIN-NEEDED: "none is run once nothing is pending", and none past the budget
    pub drain-needed : (j : ℕ) → j < (drains K levels b rs ws).cycles → pending K levels (idles K levels j x).records ≡ true
    drain-needed = rw drains-as (drain.drain-needed (ticks K levels) b x)

    pub drain-within : (drains K levels b rs ws).cycles ≤ b
    drain-within = rw drains-as (drain.drain-within (ticks K levels) b x)

    -- DRAIN-RAN: each of the cycles reported ran unrefused
    pub drain-ran : (j : ℕ) → j < (drains K levels b rs ws).cycles → number_of (cycled K levels Idle (idles K levels j x).records (idles K levels j x).words).answer ≡ 0
    drain-ran = rw drains-as (drain.drain-ran (ticks K levels) b x)

    -- KIND: a drain that is not refused is done
    pub drain-kind : number_of (drains K levels b rs ws).answer ≡ 0 → (drains K levels b rs ws).answer ≡ Ok None
    drain-kind = rw drains-as (drain.drain-kind (ticks K levels) b x)

    -- DRAIN-STOPS: the cycle after exactly so many idle cycles is the one that meets damage
    pub drain-stops : number_of (drains K levels b rs ws).answer ≡ 2 → Jams K levels b (drains K levels b rs ws).cycles x
    drain-stops = rw drains-as (drain.drain-stops (ticks K levels) b x)

    module _ (sh : Shape K levels (length ws)) where
      -- "whether work is left"
      pub drain-left : (drains K levels b rs ws).left ≡ pending K levels (drains K levels b rs ws).records
      drain-left = rw drains-as (drain.drain-left (ticks K levels) b x sh)

      -- with work left and no damage the budget is spent
      pub drain-spent : number_of (drains K levels b rs ws).answer ≡ 0 → (drains K levels b rs ws).left ≡ true → (drains K levels b rs ws).cycles ≡ b
      drain-spent = rw drains-as (drain.drain-spent (ticks K levels) b x sh)

      -- DRAIN-EXACT: where no cycle is refused and n idle cycles are those until nothing is pending, the count is n capped by the budget
      pub drain-exact : number_of (drains K levels b rs ws).answer ≡ 0 → (n : ℕ) → pending K levels (idles K levels n x).records ≡ false
          → ((j : ℕ) → j < n → pending K levels (idles K levels j x).records ≡ true) → (drains K levels b rs ws).cycles ≡ capped b n
      drain-exact = rw drains-as (drain.drain-count (ticks K levels) b x sh)

      -- DRAIN-ENDS: done, with no work left or the budget spent; or stopped at 2 with work left, where the cycle after exactly so many meets damage
      pub drain-ends : Ended b x (drains K levels b rs ws)
      drain-ends = rw drains-as (drain.drain-ends (ticks K levels) b x sh)

    -- EXACTLY: a drain is refused for the shape, or where an idle cycle within the budget meets damage, and leaves behind what the rule says
    pub exactly-drain : Exactly (λ (d : DrainOutcome). number_of d.answer) (drain_left K levels (drains K levels b rs ws).cycles rs ws) (drains K levels b rs ws) (drain_refusals K levels b rs ws)
    exactly-drain = rw drains-as (exactly-as _ _ shown (λ d. number_of d.answer) (λ d. refl) _ _ (drain.exactly-drain (ticks K levels) b x))

    -- "Drain stops at 2 and reports the cycles already run, work left; at 1 it reports 0 and no work left"
    pub drain-refused : (n : Refusal) → number_of (drains K levels b rs ws).answer ≡ refusal_number n → drains K levels b rs ws ≡ drain_left K levels (drains K levels b rs ws).cycles rs ws n
    drain-refused = left_behind _ _ exactly-drain

-- ---- each idle cycle leaves one more record of nothing, from the top
-- the first j of k records from record i on are nothing
abbrev pub Lead : ℕ → (k : ℕ) → ℕ → List Stage → Type 0
Lead zero k i rs = Unit {0}
Lead (suc j) zero i rs = Unit {0}
Lead (suc j) (suc k) i rs = ((stage_at rs i).due ≡ Nothing) × Lead j k (suc i) rs

lead_after : (j k i : ℕ) (rs rs' : List Stage) → ((t : ℕ) → i ≤ t → stage_at rs' t ≡ stage_at rs t) → Lead j k i rs → Lead j k i rs'
lead_after zero k i rs rs' h l = tt
lead_after (suc j) zero i rs rs' h l = tt
lead_after (suc j) (suc k) i rs rs' h l = (ap (λ (q : Stage). q.due) (h i (omega arith)) ∙ l.0, lead_after j k (suc i) rs rs' (λ t g. h t (omega arith)) l.1)

module _ (K : ℕ) where
  idle-stage : (a : ℕ) (w : Work) (q : Stage) (ws : List ℕ) → w.op ≡ none → (level_stage K a w q ws).due ≡ Nothing
  unfolding level_stage begins begin loaded
  idle-stage a w q ws e = ap (λ (o : Op). (loaded (begin o (low (node_in K ws (a + w.node)).places) (node_in K (filled K a q ws) (a + w.node))).note w.node).due) e

  nothing-handed : (d : Due) (n a : ℕ) (ws : List ℕ) → d ≡ Nothing → (handed K d n a ws).op ≡ none
  unfolding handed
  nothing-handed d n a ws e = ap (λ (d : Due). (handed K d n a ws).op) e

  pass-lead : (j k a : ℕ) (w : Work) (i : ℕ) (rs : List Stage) (ws : List ℕ) → w.op ≡ none → i + k ≤ length rs → Lead j k i rs → Lead (suc j) k i (pass K k a w i rs ws).records
  unfolding pass
  pass-lead j zero a w i rs ws e len l = tt
  pass-lead j (suc k) a w i rs ws e len l = (first, later j l (λ j l. pass-lead j k (below a) g (suc i) rs₁ ws₁))
    where
      q : Stage
      q = stage_at rs i

      g : Work
      g = handed K q.due q.node a ws

      rs₁ : List Stage
      rs₁ = set rs i (level_stage K a w q ws)

      ws₁ : List ℕ
      ws₁ = level_words K a w q ws

      first : (stage_at (pass K k (below a) g (suc i) rs₁ ws₁).records i).due ≡ Nothing
      first =
          ap (λ (q : Stage). q.due) (pass-others K k (below a) g (suc i) rs₁ ws₁ i (inl (omega arith)) ∙ get_or-set_same rs i (level_stage K a w q ws) no_stage (omega arith))
          ∙ idle-stage a w q ws e

      later : (j : ℕ) → Lead j (suc k) i rs → ((j : ℕ) → Lead j k (suc i) rs₁ → g.op ≡ none → suc i + k ≤ length rs₁ → Lead j k (suc i) rs₁ → Lead (suc j) k (suc i) (pass K k (below a) g (suc i) rs₁ ws₁).records)
          → Lead j k (suc i) (pass K k (below a) g (suc i) rs₁ ws₁).records
      later zero l ih = tt
      later (suc j) l ih =
          let more : Lead j k (suc i) rs₁ = lead_after j k (suc i) rs rs₁ (set-later K rs i (level_stage K a w q ws)) l.1 in
          ih j more (nothing-handed q.due q.node a ws l.0) (omega (arith, length-set rs i (level_stage K a w q ws))) more

pub lead-quiet : (j k i : ℕ) (rs : List Stage) → k ≤ j → Lead j k i rs → quiet k rs i ≡ true
unfolding quiet is_nothing
lead-quiet j zero i rs h l = refl
lead-quiet zero (suc k) i rs h l = absurd (not-suc-le-zero h)
lead-quiet (suc j) (suc k) i rs h l = and-true _ _ (ap is_nothing l.0) (lead-quiet j k (suc i) rs (omega arith) l.1)

module _ (K levels : ℕ) where
  lead-next : (j : ℕ) (x : Machine) → number_of (cycled K levels Idle x.records x.words).answer ≡ 0 → pred levels ≤ length x.records → Lead j (pred levels) 0 x.records
      → (pred levels ≤ length (cycled K levels Idle x.records x.words).records) × Lead (suc j) (pred levels) 0 (cycled K levels Idle x.records x.words).records
  unfolding cycle_run
  lead-next j x z len l =
      subst (λ (s : Step Answer Machine). (pred levels ≤ length s.next.records) × Lead (suc j) (pred levels) 0 s.next.records) (sym (idle-ran (ticks K levels) x z)) (
        subst (λ (n : ℕ). pred levels ≤ n) (sym (pass-records K (pred levels) 0 (work none 0) 0 x.records x.words)) len,
        pass-lead K j (pred levels) 0 (work none 0) 0 x.records x.words refl (omega arith) l,
      )

  -- levels less one idle cycles that are not refused leave nothing pending
  abbrev led : ℕ → Machine → Type 0
  led j x = (pred levels ≤ length x.records) × Lead j (pred levels) 0 x.records

  more-led : (j : ℕ) (x : Machine) → number_of (cycle_queue K levels Idle x).said ≡ 0 → led j x → led (suc j) (cycle_queue K levels Idle x).next
  more-led j x z l = lead-next j x z l.0 l.1

  all-led : (x : Machine) → led (pred levels) x → pending K levels x.records ≡ false
  all-led x l = ap not (lead-quiet (pred levels) (pred levels) 0 x.records (omega arith) l.1)

  pub idles-quiet : (x : Machine) → pred levels ≤ length x.records → ((t : ℕ) → t < pred levels → number_of (cycled K levels Idle (idles K levels t x).records (idles K levels t x).words).answer ≡ 0)
      → pending K levels (idles K levels (pred levels) x).records ≡ false
  idles-quiet x len = drain.idles-quiet (ticks K levels) (pred levels) led more-led all-led x (len, tt)

  -- DRAIN-FEW: whatever the machine and the budget, no more cycles are run than there are levels from 2
  pub drain-few : (b : ℕ) (rs : List Stage) (ws : List ℕ) → pred levels ≤ length rs → (drains K levels b rs ws).cycles ≤ pred levels
  drain-few b rs ws len =
      rw (drains-as K levels b rs ws)
      (drain.drain-few (ticks K levels) (pred levels) led more-led all-led b (machine rs ws) (len, tt))
