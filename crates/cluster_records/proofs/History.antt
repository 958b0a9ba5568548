-- A list of lent calls is the list of by-value cycles: the host's memory holds the machine that they leave.
use Rattle.laws.specs.Prelude.{Bool, Element, Empty, Full, Idle, List, NoTag, Pop, Push, Replace, Request, [], ◌-◌, ◌∙◌, ◌≡◌, ◌≤◌, and_left, and-true, ap, arith, cond, eqb, false, has_run, le-leb, leb, leb-true, length, ltb, ltb-false, pred, refl, replicate, sub-one, subst, sym, true, true≢false, untagged, ℕ, Ok, None, Some, Err}
use Rattle.cluster_clock_model.proofs.Laws.{clear-taken, cycled-either, cycled-length, drain-state, few-levels, shape-kept, sound}
use Rattle.cluster_clock_model.specs.Prelude.{DrainOutcome, Machine, cleared_machine, cycle_answers, cycle_queue, cycle_run, cycled, drains, fresh, idles, machine, ran, stage_count}
use Rattle.cluster_clock_model.specs.declared.Stage.{Stage}
use Rattle.cluster_records.proofs.Plain.{kinds-back, Plain, plain-fresh, plain-read, read_back, cycled-plain}
use Rattle.cluster_records.specs.History.{cleared_memory, Holds, lent_queue, Memory, memory}
use Rattle.cluster_records.proofs.Back.{back-length}
use Rattle.cluster_records.specs.Lent.{ClusterRecord, kinds_ok, lent_cleared, lent_drains, lent_of, lent_outcome, LentOutcome, lent_cycled, readable, records_back, stages_back, stages_read}
use Rattle.cluster_model.specs.Prelude.{Ruling, Shape, held_in, low_elem, node_in, none, put, room, rule, rule_at, ruling, shape_ok, swap, take}
use Rattle.promise.specs.Prelude.{answers, answers-same, leaves, leaves-in-step, leaves-keep}

-- ---- what the root rules runs, so that a cycle that did not run left the records
rule-runs : (c h : ℕ) (e : Element) (r : Request) → has_run (rule c r h e).answer ≡ true
unfolding rule
rule-runs c h e Idle = refl
rule-runs c h e (Push x) = go (untagged x) (ltb h c)
  where
    go : (a b : Bool) → has_run (cond {A = Ruling} a (ruling (Err NoTag) none) (cond {A = Ruling} b (ruling (Ok None) (put x)) (ruling (Err Full) none))).answer ≡ true
    go true b = refl
    go false true = refl
    go false false = refl
rule-runs c h e Pop = go (eqb h 0)
  where
    go : (b : Bool) → has_run (cond {A = Ruling} b (ruling (Err Empty) none) (ruling (Ok (Some e)) take)).answer ≡ true
    go true = refl
    go false = refl
rule-runs c h e (Replace x) = go (untagged x) (eqb h 0)
  where
    go : (a b : Bool) → has_run (cond {A = Ruling} a (ruling (Err NoTag) none) (cond {A = Ruling} b (ruling (Err Empty) none) (ruling (Ok (Some e)) (swap x)))).answer ≡ true
    go true b = refl
    go false true = refl
    go false false = refl

pub left-all : (K levels : ℕ) (r : Request) (qs : List Stage) (ws : List ℕ) → has_run (cycled K levels r qs ws).answer ≡ false → (cycled K levels r qs ws).records ≡ qs
unfolding cycle_run
left-all K levels r qs ws = cycled-either K levels r qs ws (λ o. has_run o.answer ≡ false → o.records ≡ qs) (λ e. refl) (λ e. refl) runs
  where
    runs : shape_ok K levels (length ws) ≡ true → sound K levels r qs ws ≡ true → has_run (cycle_run K levels (rule_at K levels r ws) qs ws).answer ≡ false → (cycle_run K levels (rule_at K levels r ws) qs ws).records ≡ qs
    runs e f z = absurd (true≢false (sym (rule-runs (room K levels) (held_in K levels ws) (low_elem (node_in K ws 0).places) r) ∙ z))

-- ---- one call
module _ (K levels : ℕ) (rs : List ClusterRecord) (ws : List ℕ) (sh : Shape K levels (length ws)) (read : readable (levels - 1) rs ≡ true) where
  abbrev k : ℕ
  k = levels - 1

  -- what is read
  abbrev t : List Stage
  t = stages_read k rs

  few : k ≤ stage_count
  few = omega (arith, few-levels K levels (length ws) sh, sh.some)

  long : k ≤ length rs
  unfolding readable
  long = leb-true k (length rs) (and_left (leb k (length rs)) (kinds_ok k rs) read)

  -- records written back where a cycle ran, or standing where they are what was read
  back : (b : Bool) (qs : List Stage) (us : List ℕ) → length us ≡ length ws → Plain k qs → (b ≡ false → qs ≡ t) → Holds K levels (memory (records_back levels rs b qs) us) (machine qs us)
  unfolding readable
  back true qs us l p g = record {
    shape = subst (Shape K levels) (sym l) sh;
    read = and-true (leb k (length (stages_back k qs rs))) (kinds_ok k (stages_back k qs rs)) (le-leb k (length (stages_back k qs rs)) (omega (arith, long, back-length k qs rs))) (kinds-back k qs rs few long p);
    stages = read_back k qs rs few long p;
    words = refl;
  }
  back false qs us l p g = record { shape = subst (Shape K levels) (sym l) sh; read = read; stages = sym (g refl); words = refl }

  plain-on : (P : ℕ → Type 0) → P (pred levels) → P k
  plain-on P p = subst P (sym (sub-one levels)) p

  plain : Plain (pred levels) t
  plain = subst (λ (j : ℕ). Plain j t) (sub-one levels) (plain-read k rs few)

  less : pred levels ≤ stage_count
  less = omega (arith, few, sub-one levels)

  cycle-holds : (r : Request) → ((lent_queue K levels r (memory rs ws)).said ≡ (cycle_queue K levels r (machine t ws)).said)
      × Holds K levels (lent_queue K levels r (memory rs ws)).next (cycle_queue K levels r (machine t ws)).next
  unfolding lent_cycled
  cycle-holds r =
      rw read (
        refl,
        back (has_run (cycled K levels r t ws).answer) (cycled K levels r t ws).records (cycled K levels r t ws).words (cycled-length K levels r t ws)
            (plain-on (λ j. Plain j (cycled K levels r t ws).records) (cycled-plain K levels r t ws less plain)) (left-all K levels r t ws),
      )

  idles-plain : (n : ℕ) → Plain (pred levels) (idles K levels n (machine t ws)).records
  idles-plain n = leaves-keep (cycle_queue K levels) (λ x. Plain (pred levels) x.records) (λ r x p. cycled-plain K levels r x.records x.words less p) (replicate n Idle) (machine t ws) plain

  idles-length : (n : ℕ) → length (idles K levels n (machine t ws)).words ≡ length ws
  idles-length n = leaves-keep (cycle_queue K levels) (λ x. length x.words ≡ length ws) (λ r x e. cycled-length K levels r x.records x.words ∙ e) (replicate n Idle) (machine t ws) refl

  drain-holds : (budget : ℕ)
      → (let d = lent_drains K levels rs ws budget in let e = drains K levels budget t ws in
      (d.answer ≡ e.answer) × (d.cycles ≡ e.cycles) × (d.left ≡ e.left) × Holds K levels (memory d.records d.words) (machine e.records e.words))
  unfolding lent_drains leaves
  drain-holds budget =
      rw read (
        refl,
        refl,
        refl,
        back (ltb 0 e.cycles) e.records e.words (ap length st.0 ∙ idles-length e.cycles)
            (plain-on (λ j. Plain j e.records) (subst (Plain (pred levels)) (sym st.1) (idles-plain e.cycles)))
            (λ f. let none : e.cycles ≡ 0 = omega (arith, ltb-false 0 e.cycles f) in st.1 ∙ ap (λ (n : ℕ). (idles K levels n (machine t ws)).records) none),
      )
    where
      e : DrainOutcome
      e = drains K levels budget t ws

      st : (e.words ≡ (idles K levels e.cycles (machine t ws)).words) × (e.records ≡ (idles K levels e.cycles (machine t ws)).records)
      st = drain-state K levels budget t ws

-- ---- a list of calls, from any memory that holds a machine
module _ (K levels : ℕ) where
  -- by what is read of the memory and its words, which are the machine's
  at_words : (P : Memory → Machine → Type 0) → ((rs : List ClusterRecord) (ws : List ℕ) → Shape K levels (length ws) → readable (levels - 1) rs ≡ true → P (memory rs ws) (machine (stages_read (levels - 1) rs) ws))
      → (x : Memory) (y : Machine) → Holds K levels x y → P x y
  at_words P f x y h =
      subst (λ (v : List ℕ). P (memory x.records v) y) (sym h.words)
      (subst (λ (qs : List Stage). P (memory x.records y.words) (machine qs y.words)) h.stages (f x.records y.words h.shape h.read))

  -- one cycle
  pub history-cycle : (r : Request) (x : Memory) (y : Machine) → Holds K levels x y
      → ((lent_queue K levels r x).said ≡ (cycle_queue K levels r y).said) × Holds K levels (lent_queue K levels r x).next (cycle_queue K levels r y).next
  history-cycle r x y h =
      at_words (λ x y. ((lent_queue K levels r x).said ≡ (cycle_queue K levels r y).said) × Holds K levels (lent_queue K levels r x).next (cycle_queue K levels r y).next)
      (λ rs ws sh e. cycle-holds K levels rs ws sh e r) x y h

  -- HISTORY: a list of lent cycles is answered as the by-value cycles are, and the memory holds the machine that they leave
  module _ (x : Memory) (y : Machine) (h : Holds K levels x y) (qs : List Request) where
    pub history : answers (lent_queue K levels) qs x ≡ answers (cycle_queue K levels) qs y
    history = answers-same (lent_queue K levels) (cycle_queue K levels) (Holds K levels) (λ r x y h. (history-cycle r x y h).0) (λ r x y h. (history-cycle r x y h).1) qs x y h

    pub history-holds : Holds K levels (leaves (lent_queue K levels) qs x) (leaves (cycle_queue K levels) qs y)
    history-holds = leaves-in-step (lent_queue K levels) (cycle_queue K levels) (Holds K levels) (λ r x y h. (history-cycle r x y h).0) (λ r x y h. (history-cycle r x y h).1) qs x y h

  -- .. and so is a drain
  pub history-drain : (x : Memory) (y : Machine) → Holds K levels x y → (budget : ℕ)
      → (let d = lent_drains K levels x.records x.words budget in let e = drains K levels budget y.records y.words in
      (d.answer ≡ e.answer) × (d.cycles ≡ e.cycles) × (d.left ≡ e.left) × Holds K levels (memory d.records d.words) (machine e.records e.words))
  history-drain x y h budget =
      at_words
      (λ x y. let d = lent_drains K levels x.records x.words budget in let e = drains K levels budget y.records y.words in
      (d.answer ≡ e.answer) × (d.cycles ≡ e.cycles) × (d.left ≡ e.left) × Holds K levels (memory d.records d.words) (machine e.records e.words))
      (λ rs ws sh e. drain-holds K levels rs ws sh e budget) x y h

  -- any memory whose records can be read holds the machine that is read
  pub holds_read : (rs : List ClusterRecord) (ws : List ℕ) → Shape K levels (length ws) → readable (levels - 1) rs ≡ true → Holds K levels (memory rs ws) (machine (stages_read (levels - 1) rs) ws)
  holds_read rs ws sh e = record { shape = sh; read = e; stages = refl; words = refl }

-- ---- CLEARED: a clear, with a shape and a record for each level from 2, is not refused, whatever the records hold, and leaves a cleared machine
module _ (K levels : ℕ) (rs : List ClusterRecord) (ws : List ℕ) (sh : Shape K levels (length ws)) (enough : levels - 1 ≤ length rs) where
  pub clear-is : lent_cleared K levels rs ws ≡ lent_outcome (Ok None) (cleared_machine K levels ws).words (stages_back (levels - 1) fresh rs)
  unfolding lent_cleared
  clear-is = rw (le-leb (levels - 1) (length rs) enough) (ap (lent_of levels rs) (clear-taken K levels ws fresh sh))

  pub clear-answer : (lent_cleared K levels rs ws).answer ≡ Ok None
  clear-answer = ap (λ (o : LentOutcome). o.answer) clear-is

  pub clear-holds : Holds K levels (cleared_memory K levels (memory rs ws)) (cleared_machine K levels ws)
  unfolding readable leaves
  clear-holds =
      let few : levels - 1 ≤ stage_count = omega (arith, few-levels K levels (length ws) sh, sh.some) in
      let p : Plain (levels - 1) fresh = plain-fresh (levels - 1) in
      rw clear-is
      (record {
        shape = shape-kept K ws [] levels sh;
        read = and-true (leb (levels - 1) (length (stages_back (levels - 1) fresh rs))) (kinds_ok (levels - 1) (stages_back (levels - 1) fresh rs)) (le-leb (levels - 1) (length (stages_back (levels - 1) fresh rs)) (omega (arith, enough, back-length (levels - 1) fresh rs))) (kinds-back (levels - 1) fresh rs few enough p);
        stages = read_back (levels - 1) fresh rs few enough p;
        words = refl;
      })

  -- FROM A CLEAR: so that whatever is shown of a list of cycles from a cleared machine holds of the host's memory
  pub history-cleared : (qs : List Request)
      → (answers (lent_queue K levels) qs (cleared_memory K levels (memory rs ws)) ≡ cycle_answers K levels qs ws)
      × Holds K levels (leaves (lent_queue K levels) qs (cleared_memory K levels (memory rs ws))) (ran K levels qs ws)
  history-cleared qs =
      (history K levels (cleared_memory K levels (memory rs ws)) (cleared_machine K levels ws) clear-holds qs, history-holds K levels (cleared_memory K levels (memory rs ws)) (cleared_machine K levels ws) clear-holds qs)
