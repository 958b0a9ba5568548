-- A list of lent calls is the list of by-value calls on the machine that the host's memory holds: so what is shown of the by-value form holds of the
-- host's own memory.
use Rattle.laws.specs.Prelude.{Answer, BadPort, BadRank, BadShape, Bool, Damaged, Empty, Full, Idle, List, NoHeap, NoTag, Refusal, Request, TooSoon, [], ◌-◌, ◌∙◌, ◌≡◌, ◌≤◌, ◌⊎◌, and_left, and_right, and-true, ap, arith, false, inl, inr, le-leb, leb, leb-true, length, length-replicate, ltb, ltb-false, number_of, pred, refl, replicate, sub-one, subst, sym, true, true≢false, ℕ, ⊎_elim, Ok, None, Some, Err}
use Rattle.tree_clock_model.proofs.Laws.{clear-fresh, clear-taken, cycled-length, drain-state, few-levels, shape-kept, stands as left_behind}
use Rattle.tree_clock_model.specs.Prelude.{CycleOutcome, DrainOutcome, Machine, clocked_queue, cycle_answers, cycle_left, cycled, drains, fresh, has_run, idles, machine, ran, record_count, works_of}
use Rattle.tree_clock_model.specs.Promise.{cleared_machine}
use Rattle.tree_clock_model.specs.declared.State.{State}
use Rattle.tree_records.proofs.Alike.{Alike, cycled-records, cycled-same, drains-kept, drains-same, SameCycle, SameDrain}
use Rattle.tree_records.proofs.Back.{back-length, works-few}
use Rattle.tree_records.proofs.Stood.{kinds-back, Stood, stood-fresh, stood_on, stood-read, works-back}
use Rattle.tree_records.specs.History.{cleared_memory, Holds, lent_queue, Memory, memory}
use Rattle.tree_records.specs.Lent.{drain_of, kinds_ok, lent_cleared, lent_cycled, lent_drains, lent_of, lent_outcome, LentOutcome, readable, records_back, state_read, works_back}
use Rattle.tree_records.specs.Steps.{unread}
use Rattle.tree_records.specs.declared.Record.{Record}
use Rattle.promise.specs.Prelude.{answers, answers-same, leaves, leaves-in-step, leaves-keep}
use Rattle.tree_model.specs.Prelude.{Shape, idle}
use Rattle.tree_model.specs.declared.Work.{Work}

-- ---- a cycle that did not run was refused 1 or 2, and left everything
not-run : (a : Answer) → has_run a ≡ false → (n : Refusal) × ((n ≡ BadShape) ⊎ (n ≡ Damaged)) × (a ≡ Err n)
not-run (Ok None) e = absurd (true≢false e)
not-run (Ok (Some x)) e = absurd (true≢false e)
not-run (Err BadShape) e = (BadShape, inl refl, refl)
not-run (Err Damaged) e = (Damaged, inr refl, refl)
not-run (Err TooSoon) e = absurd (true≢false e)
not-run (Err BadRank) e = absurd (true≢false e)
not-run (Err Full) e = absurd (true≢false e)
not-run (Err Empty) e = absurd (true≢false e)
not-run (Err NoTag) e = absurd (true≢false e)
not-run (Err BadPort) e = absurd (true≢false e)
not-run (Err NoHeap) e = absurd (true≢false e)

pub left-all : (m levels : ℕ) (r : Request) (s : State) (ws : List ℕ) → has_run (cycled m levels r s ws).answer ≡ false → (cycled m levels r s ws).state ≡ s
left-all m levels r s ws e =
    let n = not-run (cycled m levels r s ws).answer e in
    ap (λ (c : CycleOutcome). c.state) (left_behind m levels r s ws n.0 (ap number_of n.2))
    ∙ ⊎_elim (λ q. ap (λ (n : Refusal). (cycle_left m levels s ws n).state) q) (λ q. ap (λ (n : Refusal). (cycle_left m levels s ws n).state) q) n.1

-- ---- one call
module _ (m levels : ℕ) (rs : List Record) (mark : Bool) (s : State) (ws : List ℕ) (h : Holds m levels (memory rs mark ws) (machine s ws)) where
  abbrev k : ℕ
  k = levels - 1

  -- what is read
  abbrev t : State
  t = state_read k rs mark

  pub held-few : k ≤ record_count
  held-few = omega (arith, few-levels m levels (length ws) h.shape, h.shape.some)

  pub held-long : k ≤ length rs
  unfolding readable
  held-long = leb-true k (length rs) (and_left (leb k (length rs)) (kinds_ok k rs) h.read)

  pub held-kinds : kinds_ok k rs ≡ true
  unfolding readable
  held-kinds = and_right (leb k (length rs)) (kinds_ok k rs) h.read

  pub alike : Alike (pred levels) t s
  alike =
      subst (λ (j : ℕ). Alike j t s) (sub-one levels)
      (record { works = h.works; mark = h.mark; first = omega (arith, held-few, works-few k rs); second = omega (arith, held-few, h.few) })

  stood : Stood k t.records rs
  stood = stood-read k rs held-few held-kinds

  -- records written back where a cycle ran, from a state v that goes on as u does, or standing where u is the state held
  back : (b : Bool) (v u : State) (vs us : List ℕ) → Alike (pred levels) v u → vs ≡ us → length us ≡ length ws → length u.records ≡ record_count → Stood k v.records rs → (b ≡ false → u ≡ s)
      → Holds m levels (memory (records_back levels rs b v) v.mark vs) (machine u us)
  unfolding readable
  back true v u vs us a e l fu f g =
      record {
        shape = subst (Shape m levels) (sym l) h.shape;
        read = and-true (leb k (length (works_back k v.records rs))) (kinds_ok k (works_back k v.records rs)) (le-leb k (length (works_back k v.records rs)) (omega (arith, held-long, back-length k v.records rs))) (kinds-back k v.records rs held-long f);
        works = works-back k v.records rs held-long f held-few ∙ subst (λ (j : ℕ). works_of j v.records 0 ≡ works_of j u.records 0) (sym (sub-one levels)) a.works;
        mark = a.mark;
        words = e;
        few = fu;
      }
  back false v u vs us a e l fu f g =
      record {
        shape = subst (Shape m levels) (sym l) h.shape;
        read = h.read;
        works = h.works ∙ ap (λ (s : State). works_of k s.records 0) (sym (g refl));
        mark = a.mark;
        words = e;
        few = fu;
      }

  pub stood-cycled : (r : Request) → Stood k (cycled m levels r t ws).state.records rs
  stood-cycled r =
      subst (λ (j : ℕ). Stood j (cycled m levels r t ws).state.records rs) (sym (sub-one levels))
      (stood_on m levels r t ws rs (omega (arith, alike.first)) (subst (λ (j : ℕ). Stood j t.records rs) (sub-one levels) stood))

  pub lent-cycle : (r : Request) → lent_cycled m levels mark rs ws r ≡ lent_of levels rs (cycled m levels r t ws)
  unfolding lent_cycled
  lent-cycle r = rw h.read

  pub cycle-holds : (r : Request) → ((lent_queue m levels r (memory rs mark ws)).said ≡ (clocked_queue m levels r (machine s ws)).said)
      × Holds m levels (lent_queue m levels r (memory rs mark ws)).next (clocked_queue m levels r (machine s ws)).next
  cycle-holds r =
      rw (lent-cycle r) (
        same.answer,
        back (has_run o.answer) o.state p.state o.words p.words same.state same.words (cycled-length m levels r s ws) (cycled-records m levels r s ws ∙ h.few) (stood-cycled r)
            (λ e. left-all m levels r s ws (ap has_run (sym same.answer) ∙ e)),
      )
    where
      o : CycleOutcome
      o = cycled m levels r t ws

      p : CycleOutcome
      p = cycled m levels r s ws

      same : SameCycle (pred levels) o p
      same = cycled-same m levels r t s ws alike

  -- a drain
  stood-idles : (n : ℕ) → Stood k (idles m levels n t ws).state.records rs
  stood-idles n =
      subst (λ (j : ℕ). Stood j (idles m levels n t ws).state.records rs) (sym (sub-one levels))
      (leaves-keep (clocked_queue m levels) (λ x. (pred levels ≤ length x.state.records) × Stood (pred levels) x.state.records rs)
      (λ r x f. (omega (arith, f.0, cycled-records m levels r x.state x.words), stood_on m levels r x.state x.words rs f.0 f.1))
      (replicate n Idle) (machine t ws) (alike.first, subst (λ (j : ℕ). Stood j t.records rs) (sub-one levels) stood)).1

  lent-drain : (budget : ℕ) → lent_drains m levels mark rs ws budget ≡ drain_of levels rs (drains m levels budget t ws)
  unfolding lent_drains
  lent-drain budget = rw h.read

  drain-holds : (budget : ℕ)
      → (let d = lent_drains m levels mark rs ws budget in let e = drains m levels budget s ws in
      (d.answer ≡ e.answer) × (d.cycles ≡ e.cycles) × (d.left ≡ e.left) × Holds m levels (memory d.records d.mark d.words) (machine e.state e.words))
  unfolding leaves
  drain-holds budget =
      rw (lent-drain budget) (
        same.answer,
        same.cycles,
        same.left,
        back (ltb 0 d.cycles) d.state e.state d.words e.words same.state same.words (drains-kept m levels budget s ws).1 ((drains-kept m levels budget s ws).0 ∙ h.few)
            (subst (λ (v : State). Stood k v.records rs) (sym (drain-state m levels budget t ws).1) (stood-idles d.cycles))
            (λ f.
            let none : e.cycles ≡ 0 = omega (arith, same.cycles, ltb-false 0 d.cycles f) in
            (drain-state m levels budget s ws).1 ∙ ap (λ (n : ℕ). (idles m levels n s ws).state) none),
      )
    where
      d : DrainOutcome
      d = drains m levels budget t ws

      e : DrainOutcome
      e = drains m levels budget s ws

      same : SameDrain (pred levels) d e
      same = drains-same m levels budget t s ws alike

-- ---- a list of calls, from any memory that holds a machine
module _ (m levels : ℕ) where
  -- by the words of the memory, which are the machine's
  at_words : (P : Memory → Machine → Type 0) → ((rs : List Record) (mark : Bool) (s : State) (ws : List ℕ) → Holds m levels (memory rs mark ws) (machine s ws) → P (memory rs mark ws) (machine s ws))
      → (x : Memory) (y : Machine) → Holds m levels x y → P x y
  at_words P f x y h =
      subst (λ (v : List ℕ). P (memory x.records x.mark v) y) (sym h.words)
      (f x.records x.mark y.state y.words (record { shape = h.shape; read = h.read; works = h.works; mark = h.mark; words = refl; few = h.few }))

  -- one cycle
  pub history-cycle : (r : Request) (x : Memory) (y : Machine) → Holds m levels x y
      → ((lent_queue m levels r x).said ≡ (clocked_queue m levels r y).said) × Holds m levels (lent_queue m levels r x).next (clocked_queue m levels r y).next
  history-cycle r x y h =
      at_words (λ x y. ((lent_queue m levels r x).said ≡ (clocked_queue m levels r y).said) × Holds m levels (lent_queue m levels r x).next (clocked_queue m levels r y).next)
      (λ rs mark s ws h. cycle-holds m levels rs mark s ws h r) x y h

  -- HISTORY: a list of lent cycles is answered as the by-value cycles are, and the memory holds the machine that they leave
  module _ (x : Memory) (y : Machine) (h : Holds m levels x y) (qs : List Request) where
    pub history : answers (lent_queue m levels) qs x ≡ answers (clocked_queue m levels) qs y
    history = answers-same (lent_queue m levels) (clocked_queue m levels) (Holds m levels) (λ r x y h. (history-cycle r x y h).0) (λ r x y h. (history-cycle r x y h).1) qs x y h

    pub history-holds : Holds m levels (leaves (lent_queue m levels) qs x) (leaves (clocked_queue m levels) qs y)
    history-holds = leaves-in-step (lent_queue m levels) (clocked_queue m levels) (Holds m levels) (λ r x y h. (history-cycle r x y h).0) (λ r x y h. (history-cycle r x y h).1) qs x y h

  -- .. and so is a drain
  pub history-drain : (x : Memory) (y : Machine) → Holds m levels x y → (budget : ℕ)
      → (let d = lent_drains m levels x.mark x.records x.words budget in let e = drains m levels budget y.state y.words in
      (d.answer ≡ e.answer) × (d.cycles ≡ e.cycles) × (d.left ≡ e.left) × Holds m levels (memory d.records d.mark d.words) (machine e.state e.words))
  history-drain x y h budget =
      at_words
      (λ x y. let d = lent_drains m levels x.mark x.records x.words budget in let e = drains m levels budget y.state y.words in
      (d.answer ≡ e.answer) × (d.cycles ≡ e.cycles) × (d.left ≡ e.left) × Holds m levels (memory d.records d.mark d.words) (machine e.state e.words))
      (λ rs mark s ws h. drain-holds m levels rs mark s ws h budget) x y h

  -- any memory whose records can be read holds the machine that is read
  pub holds_read : (rs : List Record) (mark : Bool) (ws : List ℕ) → Shape m levels (length ws) → readable (levels - 1) rs ≡ true → Holds m levels (memory rs mark ws) (machine (state_read (levels - 1) rs mark) ws)
  holds_read rs mark ws sh e = record { shape = sh; read = e; works = refl; mark = refl; words = refl; few = works-few (levels - 1) rs }

-- ---- CLEARED: a clear, with a shape and a record for each level from 2, is not refused, whatever the records hold, and leaves a cleared machine
module _ (m levels : ℕ) (rs : List Record) (mark : Bool) (ws : List ℕ) (sh : Shape m levels (length ws)) (long : levels - 1 ≤ length rs) where
  pub clear-is : lent_cleared m levels mark rs ws ≡ lent_outcome (Ok None) (cleared_machine m levels ws).words (works_back (levels - 1) fresh.records rs) false
  unfolding lent_cleared fresh
  clear-is =
      rw (le-leb (levels - 1) (length rs) long)
      (ap (lent_of levels rs) (clear-taken m levels (unread mark) ws sh ∙ (clear-fresh m levels ws sh).0))

  pub clear-answer : (lent_cleared m levels mark rs ws).answer ≡ Ok None
  clear-answer = ap (λ (o : LentOutcome). o.answer) clear-is

  pub clear-mark : (lent_cleared m levels mark rs ws).mark ≡ false
  clear-mark = ap (λ (o : LentOutcome). o.mark) clear-is

  pub clear-holds : Holds m levels (cleared_memory m levels (memory rs mark ws)) (cleared_machine m levels ws)
  unfolding readable fresh leaves
  clear-holds =
      let few : levels - 1 ≤ record_count = omega (arith, few-levels m levels (length ws) sh, sh.some) in
      let vs : List Work = fresh.records in
      let f : Stood (levels - 1) vs rs = stood-fresh (levels - 1) rs few in
      rw clear-is
      (record {
        shape = shape-kept m ws [] levels sh;
        read = and-true (leb (levels - 1) (length (works_back (levels - 1) vs rs))) (kinds_ok (levels - 1) (works_back (levels - 1) vs rs)) (le-leb (levels - 1) (length (works_back (levels - 1) vs rs)) (omega (arith, long, back-length (levels - 1) vs rs))) (kinds-back (levels - 1) vs rs long f);
        works = works-back (levels - 1) vs rs long f few;
        mark = refl;
        words = refl;
        few = length-replicate record_count idle;
      })

  -- FROM A CLEAR: so that demand 3, and whatever else is shown of a list of cycles from a cleared machine, holds of the host's memory
  pub history-cleared : (qs : List Request)
      → (answers (lent_queue m levels) qs (cleared_memory m levels (memory rs mark ws)) ≡ cycle_answers m levels qs ws)
      × Holds m levels (leaves (lent_queue m levels) qs (cleared_memory m levels (memory rs mark ws))) (ran m levels qs ws)
  history-cleared qs =
      (history m levels (cleared_memory m levels (memory rs mark ws)) (cleared_machine m levels ws) clear-holds qs, history-holds m levels (cleared_memory m levels (memory rs mark ws)) (cleared_machine m levels ws) clear-holds qs)
