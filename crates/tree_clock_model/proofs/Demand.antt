-- Demand 3: over any list of cycles from a cleared machine the answers are those of the one-at-a-time tree with the rule of the mark, at
-- most levels - 1 idle cycles leave nothing pending, and then the words are that tree's.
use Rattle.laws.specs.Prelude.{Bool, Idle, List, Request, ◌+◌, ◌-◌, ◌∙◌, ◌≡◌, ◌≤◌, and-true, ap, arith, false, get_or, leb, leb-false, leb-true, length, length-replicate, not, not-false, not-suc-le-zero, pred, refl, replicate, subst, suc, suc-add, sym, true, zero, ℕ, ⊎_elim, Ok, None}
use native.Mathlib.Nat.{mul-le-mul}
use Rattle.tree_clock_model.proofs.Clock.{at_rest, lead-quiet, leads}
use Rattle.tree_clock_model.proofs.Step.{one-by-one-is, idle-ruling, in_step, InStep, quiet-clear, quiet-ready, quiet-spaced, step-answer, step-mark, ticks}
use Rattle.tree_clock_model.proofs.Turn.{plain-rest, works-after}
use Rattle.tree_clock_model.specs.Prelude.{CycleOutcome, Lead, Machine, State, clocked_queue, cycle_answers, cycle_run, cycled, fresh, idles, marks, one_by_one, one_by_one_answers, one_by_one_queue, one_by_one_words, pending, quiet, ran, record_at, record_count, works_of}
use Rattle.promise.specs.Prelude.{answers-same, leaves, leaves-in-step}
use Rattle.tree_model.proofs.Laws.{Kept, op-work, same-words, start-kept, words-none, work_none}
use Rattle.tree_model.specs.Prelude.{Levels, Outcome, Ruling, Shape, idle, is_nothing, level_of, levels_of, room, root_of, ruling, start, top, under, work}
use Rattle.tree_model.specs.declared.Op.TheVariants.{Nothing}
use Rattle.tree_model.specs.declared.Work.{Work}

-- ---- a shape has at most as many levels from 2 as there are records
more_room : (m d n : ℕ) → 2 ≤ m → room 2 d ≤ room m (d + n)
unfolding room
more_room m zero n h = omega arith
more_room m (suc d) n h = let i : suc (room 2 d) ≤ suc (room m (d + n)) = omega (arith, more_room m d n h) in rw suc-add (mul-le-mul h i)

-- order 2 with one level more than there are records for has more slots than the limit, and no order has fewer
room-past : room 2 (2 + record_count) ≡ 131070
unfolding room
room-past = refl

pub few-levels : (m levels len : ℕ) → Shape m levels len → pred levels ≤ record_count
few-levels m levels len sh = go (leb levels (1 + record_count)) refl
  where
    two : 2 ≤ m
    two = ⊎_elim (λ e. omega arith) (λ d. ⊎_elim (λ e. omega arith) (λ e. omega arith) d) sh.order

    pred-le : (n : ℕ) → n ≤ 1 + record_count → pred n ≤ record_count
    pred-le zero h = omega arith
    pred-le (suc n) h = omega arith

    go : (b : Bool) → leb levels (1 + record_count) ≡ b → pred levels ≤ record_count
    go true e = pred-le levels (leb-true levels (1 + record_count) e)
    go false e =
        let at : 2 + record_count + (levels - (2 + record_count)) ≡ levels = omega (arith, leb-false levels (1 + record_count) e) in
        absurd (omega (arith, subst (λ (n : ℕ). room 2 (2 + record_count) ≤ room m n) at (more_room m (2 + record_count) (levels - (2 + record_count)) two), room-past, sh.capacity))

-- ---- the cleared machine
get_or-same : {A : Type 0} (n i : ℕ) (a : A) → get_or (replicate n a) i a ≡ a
get_or-same zero i a = refl
get_or-same (suc n) zero a = refl
get_or-same (suc n) (suc i) a = get_or-same n i a

pub fresh-quiet : (k n i : ℕ) → quiet k (works_of k (replicate n idle) i) ≡ true
unfolding quiet works_of record_at is_nothing work
fresh-quiet zero n i = refl
fresh-quiet (suc k) n i = and-true (is_nothing (work (get_or (replicate n idle) i idle).op (get_or (replicate n idle) i idle).node).op) _ (nothing-there (get_or (replicate n idle) i idle) (get_or-same n i idle)) (fresh-quiet k n (suc i))
  where
    nothing-there : (w : Work) → w ≡ idle → is_nothing (work w.op w.node).op ≡ true
    nothing-there w e = ap (λ (w : Work). is_nothing (work w.op w.node).op) e

pub start-in-step : (m k : ℕ) (ws : List ℕ) → Shape m (suc k) (length ws) → InStep m k fresh (start m (suc k) ws) (start m (suc k) ws)
unfolding fresh levels_of
start-in-step m k ws sh =
    let q = fresh-quiet k record_count 0 in
    record {
      kept = start-kept m k ws sh;
      records = omega (arith, few-levels m (suc k) (length ws) sh, length-replicate record_count idle);
      same_length = refl;
      past = λ a h. refl;
      gaps = quiet-spaced k _ q;
      off = λ e. quiet-clear k _ q;
      ready = quiet-ready m k _ _ q;
      final = ap (λ (l : Levels k). (level_of m (start m (suc k) ws) 0 1, l)) (at_rest m k _ _ q);
    }

-- ---- an idle cycle leaves one more level with nothing to do
module _ (m levels : ℕ) where
  abbrev pub lead : ℕ → State → Type 0
  lead j s = Lead j (pred levels) (works_of (pred levels) s.records 0)

  pub cycle_run-lead : (j : ℕ) (s : State) (ws : List ℕ) → pred levels ≤ length s.records → lead j s → lead (suc j) (cycle_run m levels Idle (ruling (Ok None) Nothing) s ws).state
  unfolding cycle_run
  cycle_run-lead j s ws len h =
      subst (Lead (suc j) (pred levels)) (sym (works-after m (pred levels) _ 0 s.records (under m (pred levels) ws 0 1) (plain-rest m (work Nothing 0) _ _) (omega arith)))
      (leads m j (pred levels) _ (works_of (pred levels) s.records 0) (under m (pred levels) ws 0 1)
      (ap (λ (v : Work). v.op) (work_none m (work Nothing 0) (level_of m ws 0 1) (top (pred levels) (under m (pred levels) ws 0 1)) (op-work Nothing 0))) h)

-- ---- lists of cycles
module _ (m k : ℕ) where
  -- the machine, and the mark and the words of the tree beside it
  abbrev Both : Machine → Bool × List ℕ → Type 0
  Both x b = InStep m k x.state x.words b.1 × (x.state.mark ≡ b.0)

  both-answer : (r : Request) (x : Machine) (b : Bool × List ℕ) → Both x b → (clocked_queue m (suc k) r x).said ≡ (one_by_one_queue m (suc k) r b).said
  both-answer r x b i = step-answer m k _ _ _ i.0 r ∙ ap (λ (t : Bool). (one_by_one m (suc k) t r b.1).answer) i.1

  both-kept : (r : Request) (x : Machine) (b : Bool × List ℕ) → Both x b → Both (clocked_queue m (suc k) r x).next (one_by_one_queue m (suc k) r b).next
  both-kept r x b i = (
    subst (λ (t : Bool). InStep m k (clocked_queue m (suc k) r x).next.state (clocked_queue m (suc k) r x).next.words (one_by_one m (suc k) t r b.1).words) i.1 (in_step m k _ _ _ i.0 r),
    step-mark m k _ _ _ i.0 r ∙ ap (λ (t : Bool). marks r (one_by_one m (suc k) t r b.1).answer) i.1,
  )

  -- ---- idle cycles
  -- the tree beside stands
  idle-stands : (mark : Bool) (vs : List ℕ) → Kept m k vs → (one_by_one m (suc k) mark Idle vs).words ≡ vs
  idle-stands mark vs kept =
      ap (λ (o : Outcome). o.words) (one-by-one-is m k vs kept mark Idle)
      ∙ words-none m (suc k) _ 0 1 vs (op-work _ 0 ∙ ap (λ (g : Ruling). g.op) (idle-ruling mark (room m (suc k)) (root_of m vs)))

  idle-in-step : (s : State) (ws vs : List ℕ) → InStep m k s ws vs → InStep m k (cycled m (suc k) Idle s ws).state (cycled m (suc k) Idle s ws).words vs
  idle-in-step s ws vs i =
      subst (λ (v : List ℕ). InStep m k (cycled m (suc k) Idle s ws).state (cycled m (suc k) Idle s ws).words v) (idle-stands s.mark vs i.kept) (in_step m k s ws vs i Idle)

  pub idles-in-step : (n : ℕ) (s : State) (ws vs : List ℕ) → InStep m k s ws vs → InStep m k (idles m (suc k) n s ws).state (idles m (suc k) n s ws).words vs
  unfolding leaves
  idles-in-step zero s ws vs i = i
  idles-in-step (suc n) s ws vs i = idles-in-step n _ _ vs (idle-in-step s ws vs i)

  -- one more level has no work after each
  idle-lead : (j : ℕ) (s : State) (ws vs : List ℕ) → InStep m k s ws vs → lead m (suc k) j s → lead m (suc k) (suc j) (cycled m (suc k) Idle s ws).state
  idle-lead j s ws vs i h =
      subst (λ (o : CycleOutcome). lead m (suc k) (suc j) o.state)
      (sym (ticks m k s ws vs i Idle ∙ ap (λ (g : Ruling). cycle_run m (suc k) Idle g s ws) (idle-ruling s.mark (room m (suc k)) (root_of m ws)))) (cycle_run-lead m (suc k) j s ws i.records h)

  idles-quiet : (n j : ℕ) (s : State) (ws vs : List ℕ) → InStep m k s ws vs → k ≤ j + n → Lead j k (works_of k s.records 0)
      → quiet k (works_of k (idles m (suc k) n s ws).state.records 0) ≡ true
  unfolding leaves
  idles-quiet zero j s ws vs i l h = lead-quiet j k (works_of k s.records 0) (omega arith) h
  idles-quiet (suc n) j s ws vs i l h = idles-quiet n (suc j) _ _ vs (idle-in-step s ws vs i) (omega arith) (idle-lead j s ws vs i h)

  pub idles-done : (s : State) (ws vs : List ℕ) → InStep m k s ws vs → pending m (suc k) (idles m (suc k) k s ws).state ≡ false
  idles-done s ws vs i = ap not (idles-quiet k 0 s ws vs i (omega arith) tt)

  -- with nothing pending the words are the other tree's
  pub settled-words : (s : State) (ws vs : List ℕ) → InStep m k s ws vs → pending m (suc k) s ≡ false → ws ≡ vs
  unfolding levels_of
  settled-words s ws vs i e =
      same-words m (suc k) ws vs i.same_length
      (ap (λ (l : Levels k). (level_of m ws 0 1, l)) (sym (at_rest m k (works_of k s.records 0) (under m k ws 0 1) (not-false (quiet k (works_of k s.records 0)) e))) ∙ i.final) i.past

-- THE DEMAND. Any order and number of levels that pass the shape, any words to start with, any list of cycles from the cleared machine
pub fresh-mark : fresh.mark ≡ false
unfolding fresh
fresh-mark = refl

module _ (m : ℕ) (ws : List ℕ) (rs : List Request) where
  -- ANSWERS: too soon exactly where the mark says, and every other answer is that of the call on the one-at-a-time tree
  pub demand-answers : (levels : ℕ) → Shape m levels (length ws) → cycle_answers m levels rs ws ≡ one_by_one_answers m levels rs false (start m levels ws)
  demand-answers zero sh = absurd (not-suc-le-zero sh.some)
  demand-answers (suc k) sh =
      answers-same (clocked_queue m (suc k)) (one_by_one_queue m (suc k)) (Both m k) (both-answer m k) (both-kept m k) rs _ (false, start m (suc k) ws) (start-in-step m k ws sh, fresh-mark)

  -- after any cycle the machine is in step with that tree
  pub ran-in-step : (k : ℕ) → Shape m (suc k) (length ws) → InStep m k (ran m (suc k) rs ws).state (ran m (suc k) rs ws).words (one_by_one_words m (suc k) rs false (start m (suc k) ws))
  ran-in-step k sh =
      (leaves-in-step (clocked_queue m (suc k)) (one_by_one_queue m (suc k)) (Both m k) (both-answer m k) (both-kept m k) rs _ (false, start m (suc k) ws) (start-in-step m k ws sh, fresh-mark)).0

  -- IDLES: after any cycle, levels - 1 idle cycles leave nothing pending
  pub demand-idles : (levels : ℕ) → Shape m levels (length ws) → pending m levels (idles m levels (pred levels) (ran m levels rs ws).state (ran m levels rs ws).words).state ≡ false
  demand-idles zero sh = absurd (not-suc-le-zero sh.some)
  demand-idles (suc k) sh = idles-done m k _ _ _ (ran-in-step k sh)

  -- STORE: as soon as nothing is pending, the words are those of that tree, each of them
  pub demand-store : (levels : ℕ) → Shape m levels (length ws) → (n : ℕ) → pending m levels (idles m levels n (ran m levels rs ws).state (ran m levels rs ws).words).state ≡ false
      → (idles m levels n (ran m levels rs ws).state (ran m levels rs ws).words).words ≡ one_by_one_words m levels rs false (start m levels ws)
  demand-store zero sh n e = absurd (not-suc-le-zero sh.some)
  demand-store (suc k) sh n e = settled-words m k _ _ _ (idles-in-step m k n _ _ _ (ran-in-step k sh)) e
