-- A record that is written lies within the slice, and its node and its place fit their words.
use Rattle.laws.specs.Prelude.{BadShape, Bool, Element, Idle, List, Request, [], ◌&&◌, ◌+◌, ◌-◌, ◌<◌, ◌∙◌, ◌∷◌, ◌≡◌, ◌≤◌, and_right, ap, arith, cond, eq-or-lt_of_le, false, false≢true, get_or-replicate, get_or-set_same, has_run, inl, length, length-set, ltb, ltb-true, number_of, pred, refl, replicate, set, sub-one, subst, suc, sym, true, zero, ℕ, ⊎_elim, Ok, None, Err}
use Rattle.promise.specs.Prelude.{leaves, leaves-keep, zero-ran}
use Rattle.cluster_clock_model.proofs.Laws.{Ranged, cycled-either, drain-ran, drain-state, few-levels, handed-in, pass-others, pass-records, ranged-set, stages-ranged}
use Rattle.cluster_clock_model.specs.Prelude.{CycleOutcome, DrainOutcome, Work, asked_ok, begins, below, clock_cleared, cycle_outcome, cycle_queue, cycle_run, cycled, drain_outcome, drains, filled, fresh, handed, idles, level_stage, level_words, loaded, machine, no_stage, pass, stage_at, stage_count, stages_ok, work}
use Rattle.cluster_clock_model.specs.declared.Stage.{Stage}
use Rattle.cluster_records.proofs.Records.{lends-few, lends-within}
use Rattle.cluster_records.specs.Lent.{at_node, at_place, record_of}
use Rattle.cluster_records.specs.Steps.{clear_from, cycle_from, drains_from, lends, Ready, ended_cycle, ended_drain, Written}
use Rattle.cluster_records.specs.declared.ClusterRead.{ClusterRead}
use Rattle.cluster_records.specs.declared.ClusterEnded.{ClusterEnded}
use Rattle.cluster_model.proofs.Laws.{node-count, shape_is}
use Rattle.cluster_model.specs.Prelude.{Node, Note, Op, Place, Ruling, begin, extent, fill, lhs, low, low_here, node_in, none, nothing, nothing_below, onto, put, put_by, rhs, rule_at, seek, shape_ok, spot_of, swap, swap_by, take, take_by, trial, wipe}
use Rattle.cluster_model.specs.Node as node

-- ---- what an operation leaves at node n: a node that the next level has, and a place of the node
pub seek-le : (t : Place → List Place → Bool) (ps : List Place) → seek t ps ≤ length ps
unfolding seek
seek-le t [] = omega arith
seek-le t (p ∷ ps) = go (t p ps) (seek-le t ps)
  where
    go : (b : Bool) → seek t ps ≤ length ps → cond b 0 (suc (seek t ps)) ≤ suc (length ps)
    go true h = omega arith
    go false h = omega arith

low-le : (ps : List Place) → low ps ≤ length ps
unfolding low
low-le ps = seek-le low_here ps

abbrev place_of : Note → ℕ
place_of nothing = 0
place_of (fill j) = j
place_of (trial j x) = j
place_of (onto s y) = 0

loaded-node : (c : Note) (n : ℕ) → at_node (record_of (loaded c n)) ≤ n + n + 1
unfolding loaded
loaded-node nothing n = omega arith
loaded-node (fill j) n = omega arith
loaded-node (trial j x) n = omega arith
loaded-node (onto lhs y) n = omega arith
loaded-node (onto rhs y) n = omega arith

loaded-place : (c : Note) (n : ℕ) → at_place (record_of (loaded c n)) ≤ place_of c
unfolding loaded
loaded-place nothing n = omega arith
loaded-place (fill j) n = omega arith
loaded-place (trial j x) n = omega arith
loaded-place (onto lhs y) n = omega arith
loaded-place (onto rhs y) n = omega arith

put-place : (b : Bool) (y : Element) (x : Node) (i : ℕ) → place_of (put_by b y x).note ≤ i
unfolding put_by
put-place true y x i = omega arith
put-place false y x i = omega arith

take-place : (b : Bool) (x : Node) (i : ℕ) → place_of (take_by b i x).note ≤ i
unfolding take_by
take-place true x i = omega arith
take-place false x i = omega arith

swap-place : (b : Bool) (y : Element) (x : Node) (i : ℕ) → place_of (swap_by b i y x).note ≤ i
unfolding swap_by
swap-place true y x i = omega arith
swap-place false y x i = omega arith

begin-place : (o : Op) (i : ℕ) (x : Node) → place_of (begin o i x).note ≤ i
unfolding begin
begin-place none i x = omega arith
begin-place (put y) i x = put-place (ltb (node.free x.places) (length x.places)) y x i
begin-place take i x = take-place (nothing_below x) x i
begin-place (swap y) i x = swap-place (nothing_below x) y x i

-- ---- the first node of the level k further down
abbrev far : ℕ → ℕ → ℕ
far zero a = a
far (suc k) a = far k (below a)

far-le : (k a : ℕ) → a ≤ far k a
far-le zero a = omega arith
far-le (suc k) a = omega (arith, far-le k (below a))

far-deep : (k n a : ℕ) → k ≤ n → far k a ≤ far n a
far-deep zero n a h = far-le n a
far-deep (suc k) zero a h = absurd (omega arith)
far-deep (suc k) (suc n) a h = far-deep k n (below a) (omega arith)

-- no heap has more than 11 levels
far-few : (k : ℕ) → k ≤ stage_count → far k 0 ≤ 1023
far-few k h = far-deep k stage_count 0 h

-- ---- a pass
module _ (K : ℕ) (few : K ≤ 16) where
  stage-written : (a : ℕ) (w : Work) (q : Stage) (ws : List ℕ) → w.node < a + 1 → a ≤ 1023 → Written (level_stage K a w q ws)
  unfolding level_stage begins
  stage-written a w q ws h s =
      let m : ℕ = a + w.node in
      let i : ℕ = low (node_in K ws (a + w.node)).places in
      let x : Node = node_in K (filled K a q ws) (a + w.node) in
      let c : Note = (begin w.op i x).note in
      record {
        node = omega (arith, h, s, loaded-node c w.node);
        place = omega (arith, few, loaded-place c w.node, begin-place w.op i x, low-le (node_in K ws (a + w.node)).places, node-count K ws (spot_of K (a + w.node)));
      }

  pass-written : (k a : ℕ) (w : Work) (i : ℕ) (rs : List Stage) (ws : List ℕ) → w.node < a + 1 → Ranged k a i rs → far k a ≤ 1023 → i + k ≤ length rs
      → (j : ℕ) → i ≤ j → j < i + k → Written (stage_at (pass K k a w i rs ws).records j)
  unfolding pass
  pass-written zero a w i rs ws h r s l j b c = absurd (omega arith)
  pass-written (suc k) a w i rs ws h r s l j b c =
      let q : Stage = stage_at rs i in
      let v : Stage = level_stage K a w q ws in
      let g : Work = handed K q.due q.node a ws in
      let rs₁ : List Stage = set rs i v in
      let ws₁ : List ℕ = level_words K a w q ws in
      let at : stage_at (pass K k (below a) g (suc i) rs₁ ws₁).records i ≡ v = pass-others K k (below a) g (suc i) rs₁ ws₁ i (inl (omega arith)) ∙ get_or-set_same rs i v no_stage (omega arith) in
      ⊎_elim
      (λ (e : i ≡ j). subst (λ (j : ℕ). Written (stage_at (pass K k (below a) g (suc i) rs₁ ws₁).records j)) e
      (subst Written (sym at) (stage-written a w q ws h (omega (arith, far-le k (below a))))))
      (λ (m : i < j). pass-written k (below a) g (suc i) rs₁ ws₁ (handed-in K q.due q.node a ws r.0) (ranged-set K k (below a) i rs v r.1) s (omega (arith, l, length-set rs i v)) j m (omega arith))
      (eq-or-lt_of_le b)

-- ---- records that can be written, for so many levels
record Fitting (levels : ℕ) (qs : List Stage) : Type 0 where
  few : length qs ≡ stage_count
  all : (j : ℕ) → j < pred levels → Written (stage_at qs j)

module _ (K levels : ℕ) where
  -- a cycle that has run leaves records that fit: none of its records named a node that its level lacks
  run_fits : (g : Ruling) (rs : List Stage) (ws : List ℕ) → shape_ok K levels (length ws) ≡ true → stages_ok K (pred levels) 0 0 rs ws ≡ true → length rs ≡ stage_count
      → Fitting levels (cycle_run K levels g rs ws).records
  unfolding cycle_run
  run_fits g rs ws e h f =
      let sh = shape_is K levels (length ws) e in
      let less : pred levels ≤ stage_count = omega (arith, few-levels K levels (length ws) sh, sub-one levels) in
      record {
        few = pass-records K (pred levels) 0 (work g.op 0) 0 rs ws ∙ f;
        all = λ j l. pass-written K sh.sixteen (pred levels) 0 (work g.op 0) 0 rs ws (omega arith) (stages-ranged K (pred levels) 0 0 rs ws h) (far-few (pred levels) less) (omega (arith, f, less)) j (omega arith) (omega (arith, l));
      }

  cycled-fits : (r : Request) (rs : List Stage) (ws : List ℕ) → length rs ≡ stage_count → has_run (cycled K levels r rs ws).answer ≡ true → Fitting levels (cycled K levels r rs ws).records
  cycled-fits r rs ws f =
      cycled-either K levels r rs ws (λ o. has_run o.answer ≡ true → Fitting levels o.records) (λ e. absurd (false≢true e)) (λ e. absurd (false≢true e))
      (λ e h _. run_fits (rule_at K levels r ws) rs ws e (and_right (asked_ok K levels r ws) (stages_ok K (pred levels) 0 0 rs ws) h) f)

  -- .. and so does every cycle after it, run or not
  fits_on : (r : Request) (rs : List Stage) (ws : List ℕ) → Fitting levels rs → Fitting levels (cycled K levels r rs ws).records
  fits_on r rs ws f =
      cycled-either K levels r rs ws (λ o. Fitting levels o.records) f f
      (λ e h. run_fits (rule_at K levels r ws) rs ws e (and_right (asked_ok K levels r ws) (stages_ok K (pred levels) 0 0 rs ws) h) f.few)

  idles-fits : (n : ℕ) (rs : List Stage) (ws : List ℕ) → length rs ≡ stage_count → number_of (cycled K levels Idle rs ws).answer ≡ 0 → Fitting levels (idles K levels (suc n) (machine rs ws)).records
  unfolding leaves
  idles-fits n rs ws f e =
      leaves-keep (cycle_queue K levels) (λ x. Fitting levels x.records) (λ r x. fits_on r x.records x.words) (replicate n Idle) (machine (cycled K levels Idle rs ws).records (cycled K levels Idle rs ws).words)
      (cycled-fits Idle rs ws f (zero-ran (cycled K levels Idle rs ws).answer e))

  drained-fits : (budget : ℕ) (rs : List Stage) (ws : List ℕ) → length rs ≡ stage_count → 0 < (drains K levels budget rs ws).cycles → Fitting levels (drains K levels budget rs ws).records
  unfolding leaves
  drained-fits budget rs ws f h = go (drains K levels budget rs ws).cycles refl h
    where
      go : (n : ℕ) → (drains K levels budget rs ws).cycles ≡ n → 0 < n → Fitting levels (drains K levels budget rs ws).records
      go zero e h = absurd (omega arith)
      go (suc n) e h =
          subst (Fitting levels) (sym ((drain-state K levels budget rs ws).1 ∙ ap (λ (n : ℕ). (idles K levels n (machine rs ws)).records) e))
          (idles-fits n rs ws f (drain-ran K levels budget rs ws 0 (omega (arith, e))))

-- a cleared machine's are zeros
fresh_at : (i : ℕ) → i < stage_count → Written (stage_at fresh i)
unfolding fresh
fresh_at i h = subst Written (sym (get_or-replicate stage_count i no_stage no_stage h)) (record { node = omega arith; place = omega arith })

-- READY: where records are written, they lie within the slice, and fit their words
module _ (K levels len : ℕ) (ws : List ℕ) where
  pub none-ready : (t : ClusterEnded) → t.count ≡ 0 → Ready t len
  none-ready t e = record { few = omega arith; within = omega arith; fits = λ i h. absurd (omega arith) }

  some-ready : (t : ClusterEnded) → lends levels len ≡ true → t.count ≡ levels - 1 → Fitting levels t.stages → Ready t len
  some-ready t e c f = record {
    few = omega (arith, lends-few levels len e);
    within = omega (arith, lends-within levels len e);
    fits = λ i h. f.all i (omega (arith, h, sub-one levels));
  }

  module _ (d : ClusterRead) (full : length d.stages ≡ stage_count) where
    pub cycle-ready : (r : Request) → Ready (ended_cycle levels (cycle_from K levels len ws d r)) len
    unfolding cycle_from
    cycle-ready r = go (lends levels len) refl d.ok
      where
        o : CycleOutcome
        o = cycled K levels r d.stages ws

        ran : lends levels len ≡ true → (b : Bool) → has_run o.answer ≡ b → Ready (ended_cycle levels o) len
        ran e true f = some-ready (ended_cycle levels o) e (ap (λ (b : Bool). cond b (levels - 1) 0) f) (cycled-fits K levels r d.stages ws full f)
        ran e false f = none-ready (ended_cycle levels o) (ap (λ (b : Bool). cond b (levels - 1) 0) f)

        go : (t : Bool) → lends levels len ≡ t → (ok : Bool) → Ready (ended_cycle levels (cond (t && ok) o (cycle_outcome (Err BadShape) ws d.stages))) len
        go true e true = ran e (has_run o.answer) refl
        go true e false = none-ready _ refl
        go false e ok = none-ready _ refl

    pub drain-ready : (budget : ℕ) → Ready (ended_drain levels (drains_from K levels len ws d budget)) len
    unfolding drains_from
    drain-ready budget = go (lends levels len) refl d.ok
      where
        o : DrainOutcome
        o = drains K levels budget d.stages ws

        ran : lends levels len ≡ true → (b : Bool) → ltb 0 o.cycles ≡ b → Ready (ended_drain levels o) len
        ran e true f = some-ready (ended_drain levels o) e (ap (λ (b : Bool). cond b (levels - 1) 0) f) (drained-fits K levels budget d.stages ws full (ltb-true 0 o.cycles f))
        ran e false f = none-ready (ended_drain levels o) (ap (λ (b : Bool). cond b (levels - 1) 0) f)

        go : (t : Bool) → lends levels len ≡ t → (ok : Bool) → Ready (ended_drain levels (cond (t && ok) o (drain_outcome (Err BadShape) 0 false ws d.stages))) len
        go true e true = ran e (ltb 0 o.cycles) refl
        go true e false = none-ready _ refl
        go false e ok = none-ready _ refl

  pub clear-ready : Ready (ended_cycle levels (clear_from K levels len ws)) len
  unfolding clear_from clock_cleared
  clear-ready = go (lends levels len) refl (shape_ok K levels (length ws))
    where
      go : (t : Bool) → lends levels len ≡ t → (b : Bool)
          → Ready (ended_cycle levels (cond t (cond b (cycle_outcome (Ok None) (wipe (extent K levels 1) ws) fresh) (cycle_outcome (Err BadShape) ws fresh)) (cycle_outcome (Err BadShape) ws fresh))) len
      go true e true = record { few = lends-few levels len e; within = lends-within levels len e; fits = λ i h. fresh_at i (omega (arith, h, lends-few levels len e)) }
      go true e false = none-ready _ refl
      go false e b = none-ready _ refl
