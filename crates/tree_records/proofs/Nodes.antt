-- A record that is written lies within the slice, and its node fits its word.
use Rattle.laws.specs.Prelude.{BadShape, Bool, Idle, List, Request, [], ◌&&◌, ◌*◌, ◌+◌, ◌-◌, ◌<◌, ◌||◌, ◌∙◌, ◌≡◌, ◌≤◌, and_left, and_right, ap, arith, cond, eq-or-lt_of_le, false, false≢true, get_or, get_or-replicate, length, ltb, ltb-true, mul-le-mul_right, number_of, pred, refl, replicate, sub-one, subst, suc, suc-mul, sym, true, zero, ℕ, ⊎_elim, Ok, None, Err}
use native.Mathlib.Nat.{suc-pred-eq_of_pos}
use Rattle.tree_clock_model.proofs.Laws.{after-length, cycled-either, drain-ran, drain-state, few-levels, plain-rest, works-after}
use Rattle.promise.specs.Prelude.{leaves, leaves-keep, zero-ran}
use Rattle.tree_clock_model.specs.Prelude.{CycleOutcome, DrainOutcome, Works, asked_ok, clocked_cleared, clocked_queue, cycle_ok, cycle_outcome, cycle_run, cycle_work, cycle_works, cycled, drain_outcome, drains, fresh, has_run, idles, machine, record_at, record_count, rule_now, steps_ok, works_of}
use Rattle.tree_clock_model.specs.declared.State.{State}
use Rattle.tree_records.proofs.Records.{lends-few, lends-within}
use Rattle.tree_records.specs.Lent.{record_by, record_of}
use Rattle.tree_records.specs.Steps.{clear_from, cycle_from, drain_from, lends, Ready, state_of, ended_cycle, ended_drain, unread, word_limit}
use Rattle.tree_records.specs.declared.Read.{Read}
use Rattle.tree_records.specs.declared.Ended.{Ended}
use Rattle.tree_model.proofs.Laws.{is_none, level-length, level-node, node-length, order-pos, place_inside, shape_is, size_room, work_none}
use Rattle.tree_model.specs.Prelude.{Level, Levels, Ruling, idle, is_nothing, level_move, level_of, levels_of, low, read_ok, rest_words, room, shape_ok, size, slot_limit, step_ok, step_work, top, under, wipe, work, work_ok}
use Rattle.tree_model.specs.declared.Move.{Move}
use Rattle.tree_model.specs.declared.Op.{Op}
use Rattle.tree_model.specs.declared.Op.TheVariants.{Nothing, Put, Swap, Take}
use Rattle.tree_model.specs.declared.Slot.{Slot}
use Rattle.tree_model.specs.declared.Work.{Work}

-- the nodes of k levels' work fit a word
abbrev Fit : (k : ℕ) → Works k → Type 0
Fit zero p = Unit {0}
Fit (suc k) p = (p.0.node < word_limit) × Fit k p.1

node-le : (o : Op) (n : ℕ) → (record_by o n).node ≤ (work o n).node
unfolding work
node-le Nothing n = omega arith
node-le (Put x) n = omega arith
node-le Take n = omega arith
node-le (Swap x) n = omega arith

work-le : (o : Op) (n : ℕ) → (work o n).node ≤ n
unfolding work
work-le Nothing n = omega arith
work-le (Put x) n = omega arith
work-le Take n = omega arith
work-le (Swap x) n = omega arith

-- ---- a step leaves work at a node that the next level has
module _ (m : ℕ) (pos : 0 < m) (k : ℕ) (w : Work) (ws : List ℕ) (b c : ℕ) (below : Level) where
  abbrev own : List Slot
  own = get_or (level_of m ws b c) w.node []

  abbrev passes : Bool
  passes = step_ok m k w.op own (λ j. get_or below (w.node * m + j) [])

  abbrev here : Bool
  here = ltb w.node (length (level_of m ws b c))

  rest_some : is_nothing w.op ≡ false → (here && passes) ≡ true → (step_work m w (level_of m ws b c) below).node ≤ c * m
  unfolding step_work level_move step_ok
  rest_some p h =
      let inside : w.node < c = subst (λ (a : ℕ). w.node < a) (level-length m ws b c) (ltb-true w.node (length (level_of m ws b c)) (and_left here passes h)) in
      let len : length own ≡ m = ap length (level-node m ws b c w.node inside) ∙ node-length m ws (b + w.node * m) in
      let v : Move = level_move m w.op w.node (level_of m ws b c) below in
      let place : v.place < length own = place_inside w.op (room m k) own (λ j. low (get_or below (w.node * m + j) [])) p (omega arith) (and_left (read_ok w.op (room m k) own) _ (and_right here passes h)) in
      omega (arith, work-le v.rest (w.node * m + v.place), mul-le-mul_right m inside, suc-mul w.node m)

  rest-low : work_ok m k w (level_of m ws b c) below ≡ true → (step_work m w (level_of m ws b c) below).node ≤ c * m
  unfolding work_ok
  rest-low e = go (is_nothing w.op) refl e
    where
      go : (t : Bool) → is_nothing w.op ≡ t → (t || (here && passes)) ≡ true → (step_work m w (level_of m ws b c) below).node ≤ c * m
      go true p h = rw (work_none m w (level_of m ws b c) below (is_none w.op p)) (omega arith)
      go false p h = rest_some p h

module _ (m : ℕ) (pos : 0 < m) where
  cycle-fit : (k : ℕ) (q : Work) (p : Works k) (ws : List ℕ) (b c : ℕ) → q.node < word_limit → size m k c ≤ slot_limit
      → cycle_ok m k p (levels_of m k ws b c) ≡ true → Fit k (cycle_works m k q p (levels_of m k ws b c))
  unfolding cycle_works cycle_ok levels_of size
  cycle-fit zero q p ws b c h s e = tt
  cycle-fit (suc k) q p ws b c h s e =
      let below : Levels k = levels_of m k ws (b + c * m) (c * m) in
      let f : Bool = work_ok m k p.0 (level_of m ws b c) (top k below) in
      let r : Bool = cycle_ok m k p.1 below in
      let q₁ : Work = step_work m p.0 (level_of m ws b c) (top k below) in
      let less : q₁.node ≤ c * m = rest-low m pos k p.0 ws b c (top k below) (and_left f r e) in
      (h, cycle-fit k q₁ p.1 ws (b + c * m) (c * m) (omega arith) (omega arith) (and_right f r e))

-- ---- a state whose records' nodes fit, for so many levels
record Fits (levels : ℕ) (s : State) : Type 0 where
  few : length s.records ≡ record_count
  nodes : Fit (pred levels) (works_of (pred levels) s.records 0)

module _ (m levels : ℕ) where
  -- a cycle that has run leaves nodes that fit: none of its records named a node that its level lacks
  cycle_run-fits : (r : Request) (g : Ruling) (s : State) (ws : List ℕ) → shape_ok m levels (length ws) ≡ true → steps_ok m levels g.op s ws ≡ true → length s.records ≡ record_count
      → Fits levels (cycle_run m levels r g s ws).state
  unfolding cycle_run cycle_works levels_of
  cycle_run-fits r g s ws e h f =
      let sh = shape_is m levels (length ws) e in
      let k : ℕ = pred levels in
      let q : Work = rest_words m k (work g.op 0) 0 1 ws in
      let some : size m (suc k) 1 ≤ slot_limit = subst (λ (n : ℕ). size m n 1 ≤ slot_limit) (sym (suc-pred-eq_of_pos sh.some)) (omega (arith, size_room m levels 1, sh.capacity)) in
      record {
        few = after-length m k q 0 s.records (under m k ws 0 1) ∙ f;
        nodes = subst (Fit k) (sym (works-after m k q 0 s.records (under m k ws 0 1) (plain-rest m (work g.op 0) (level_of m ws 0 1) (top k (under m k ws 0 1))) (omega (arith, f, few-levels m levels (length ws) sh))))
            (cycle-fit m (order-pos sh) (suc k) idle (cycle_work m levels g.op s) ws 0 1 (omega arith) some h).1;
      }

  cycled-fits : (r : Request) (s : State) (ws : List ℕ) → length s.records ≡ record_count → has_run (cycled m levels r s ws).answer ≡ true → Fits levels (cycled m levels r s ws).state
  cycled-fits r s ws f =
      cycled-either m levels r s ws (λ o. has_run o.answer ≡ true → Fits levels o.state) (λ e. absurd (false≢true e)) (λ e. absurd (false≢true e))
      (λ e h _. cycle_run-fits r (rule_now m levels r s ws) s ws e (and_right (asked_ok m levels r ws) (steps_ok m levels (rule_now m levels r s ws).op s ws) h) f)

  -- .. and so does every cycle after it, run or not
  fits_on : (r : Request) (s : State) (ws : List ℕ) → Fits levels s → Fits levels (cycled m levels r s ws).state
  fits_on r s ws f =
      cycled-either m levels r s ws (λ o. Fits levels o.state) f f
      (λ e h. cycle_run-fits r (rule_now m levels r s ws) s ws e (and_right (asked_ok m levels r ws) (steps_ok m levels (rule_now m levels r s ws).op s ws) h) f.few)

  idles-fits : (n : ℕ) (s : State) (ws : List ℕ) → length s.records ≡ record_count → number_of (cycled m levels Idle s ws).answer ≡ 0 → Fits levels (idles m levels (suc n) s ws).state
  unfolding leaves
  idles-fits n s ws f e =
      leaves-keep (clocked_queue m levels) (λ x. Fits levels x.state) (λ r x. fits_on r x.state x.words) (replicate n Idle) (machine (cycled m levels Idle s ws).state (cycled m levels Idle s ws).words)
      (cycled-fits Idle s ws f (zero-ran (cycled m levels Idle s ws).answer e))

  drained-fits : (budget : ℕ) (s : State) (ws : List ℕ) → length s.records ≡ record_count → 0 < (drains m levels budget s ws).cycles → Fits levels (drains m levels budget s ws).state
  unfolding leaves
  drained-fits budget s ws f h = go (drains m levels budget s ws).cycles refl h
    where
      go : (n : ℕ) → (drains m levels budget s ws).cycles ≡ n → 0 < n → Fits levels (drains m levels budget s ws).state
      go zero e h = absurd (omega arith)
      go (suc n) e h =
          subst (Fits levels) (sym ((drain-state m levels budget s ws).1 ∙ ap (λ (n : ℕ). (idles m levels n s ws).state) e))
          (idles-fits n s ws f (drain-ran m levels budget s ws 0 (omega (arith, e))))

-- ---- so that the node of each record can be written
fit_at : (k : ℕ) (vs : List Work) (i : ℕ) → Fit k (works_of k vs i) → (j : ℕ) → i ≤ j → j < i + k → (record_of (get_or vs j idle)).node < word_limit
unfolding works_of record_at
fit_at zero vs i f j a b = absurd (omega arith)
fit_at (suc k) vs i f j a b =
    ⊎_elim
    (λ e. subst (λ (j : ℕ). (record_of (get_or vs j idle)).node < word_limit) e (omega (arith, f.0, node-le (get_or vs i idle).op (get_or vs i idle).node)))
    (λ l. fit_at k vs (suc i) f.1 j l (omega arith))
    (eq-or-lt_of_le a)

-- a cleared machine's are 0
fresh_at : (i : ℕ) → i < record_count → (record_of (get_or fresh.records i idle)).node < word_limit
unfolding fresh
fresh_at i h = subst (λ (w : Work). (record_of w).node < word_limit) (sym (get_or-replicate record_count i idle idle h)) (omega arith)

-- READY: where records are written, they lie within the slice, and their nodes fit
module _ (m levels len : ℕ) (mark : Bool) (ws : List ℕ) where
  pub none-ready : (t : Ended) → t.count ≡ 0 → Ready t len
  none-ready t e = record { few = omega arith; within = omega arith; nodes = λ i h. absurd (omega arith) }

  some-ready : (t : Ended) (s : State) → lends levels len ≡ true → t.count ≡ levels - 1 → t.state.records ≡ s.records → Fits levels s → Ready t len
  some-ready t s e c w f = record {
    few = omega (arith, lends-few levels len e);
    within = omega (arith, lends-within levels len e);
    nodes = λ i h. subst (λ (vs : List Work). (record_of (get_or vs i idle)).node < word_limit) (sym w) (fit_at (pred levels) s.records 0 f.nodes i (omega arith) (omega (arith, h, sub-one levels)));
  }

  module _ (d : Read) (full : length d.works ≡ record_count) where
    pub cycle-ready : (r : Request) → Ready (ended_cycle levels (cycle_from m levels len mark ws d r)) len
    unfolding cycle_from
    cycle-ready r = go (lends levels len) refl d.ok
      where
        o : CycleOutcome
        o = cycled m levels r (state_of d mark) ws

        ran : lends levels len ≡ true → (b : Bool) → has_run o.answer ≡ b → Ready (ended_cycle levels o) len
        ran e true f = some-ready (ended_cycle levels o) o.state e (ap (λ (b : Bool). cond b (levels - 1) 0) f) refl (cycled-fits m levels r (state_of d mark) ws full f)
        ran e false f = none-ready (ended_cycle levels o) (ap (λ (b : Bool). cond b (levels - 1) 0) f)

        go : (t : Bool) → lends levels len ≡ t → (ok : Bool) → Ready (ended_cycle levels (cond (t && ok) o (cycle_outcome (Err BadShape) ws (state_of d mark)))) len
        go true e true = ran e (has_run o.answer) refl
        go true e false = none-ready _ refl
        go false e ok = none-ready _ refl

    pub drain-ready : (budget : ℕ) → Ready (ended_drain levels (drain_from m levels len mark ws d budget)) len
    unfolding drain_from
    drain-ready budget = go (lends levels len) refl d.ok
      where
        o : DrainOutcome
        o = drains m levels budget (state_of d mark) ws

        ran : lends levels len ≡ true → (b : Bool) → ltb 0 o.cycles ≡ b → Ready (ended_drain levels o) len
        ran e true f = some-ready (ended_drain levels o) o.state e (ap (λ (b : Bool). cond b (levels - 1) 0) f) refl (drained-fits m levels budget (state_of d mark) ws full (ltb-true 0 o.cycles f))
        ran e false f = none-ready (ended_drain levels o) (ap (λ (b : Bool). cond b (levels - 1) 0) f)

        go : (t : Bool) → lends levels len ≡ t → (ok : Bool) → Ready (ended_drain levels (cond (t && ok) o (drain_outcome (Err BadShape) 0 false ws (state_of d mark)))) len
        go true e true = ran e (ltb 0 o.cycles) refl
        go true e false = none-ready _ refl
        go false e ok = none-ready _ refl

  pub clear-ready : Ready (ended_cycle levels (clear_from m levels len mark ws)) len
  unfolding clear_from clocked_cleared
  clear-ready = go (lends levels len) refl (shape_ok m levels (length ws))
    where
      go : (t : Bool) → lends levels len ≡ t → (b : Bool)
          → Ready (ended_cycle levels (cond t (cond b (cycle_outcome (Ok None) (wipe (room m levels) ws) fresh) (cycle_outcome (Err BadShape) ws (unread mark))) (cycle_outcome (Err BadShape) ws (unread mark)))) len
      go true e true = record { few = lends-few levels len e; within = lends-within levels len e; nodes = λ i h. fresh_at i (omega (arith, h, lends-few levels len e)) }
      go true e false = none-ready _ refl
      go false e b = none-ready _ refl
