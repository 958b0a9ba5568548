-- Record for record: what the host's records are after a cycle, after a drain, and after any list of cycles.
use Rattle.laws.specs.Prelude.{BadShape, Bool, Idle, List, Request, [], ◌-◌, ◌<◌, ◌∙◌, ◌∷◌, ◌≡◌, ◌≤◌, ap, ap₂, arith, cond, ext_get_or, false, false≢true, get_or, get_or-replicate, length, lt-ltb, ltb, ltb-false, ltb-true, number_of, pred, refl, replicate, sub-one, subst, suc, sym, true, zero, ℕ, Err}
use Rattle.tree_clock_model.proofs.Laws.{cycled-either, drain-bad, drain-ran, drain-state, few-levels, one-step, sound-no-damage}
use Rattle.promise.specs.Prelude.{leaves, zero-ran}
use Rattle.tree_clock_model.specs.Prelude.{CycleDamage, CycleOutcome, Machine, Works, clocked_queue, cycle_run, cycled, drains, fresh, has_run, idles, landed, leave_below, level_work, machine, ran, record_count, rule_marked, rule_now, works_of}
use Rattle.tree_clock_model.specs.Promise.{cleared_machine}
use Rattle.tree_clock_model.specs.declared.State.{State}
use Rattle.tree_records.proofs.Alike.{cycled-same, SameCycle}
use Rattle.tree_records.proofs.Back.{back_at, back-length, back-past}
use Rattle.tree_records.proofs.History.{alike, clear-holds, clear-is, cycle-holds, held-few, held-kinds, held-long, holds_read, left-all, lent-cycle, stood-cycled}
use Rattle.tree_records.proofs.Stood.{handed-new, handed-stood, handed-twice, handed-zeros, idle-new, kind_at, loads, q, read_at, read-nothing, run_at, some-kind, some-new, standing-stands, Stood, stood-fresh, stood_on}
use Rattle.tree_records.specs.History.{cleared_memory, Holds, lent_idles, lent_queue, Memory, memory, RecordStep}
use Rattle.tree_records.specs.Lent.{drain_of, handed, lent_cycled, lent_drain, LentDrain, lent_drains, LentOutcome, no_record, readable, record_of, records_back, standing, state_read, work_of, works_back}
use Rattle.tree_records.specs.declared.Record.{Record}
use Rattle.tree_model.proofs.Laws.{nothing-fails, shape_is}
use Rattle.tree_model.specs.Prelude.{Shape, idle, is_nothing, rest_words, rule_at, shape_ok, under, work}
use Rattle.tree_model.specs.declared.Work.{Work}

-- two lists of records with works written back are one where they agree record for record
back-ext : (k : ℕ) (vs us : List Work) (rs ps : List Record) → k ≤ length rs → length rs ≡ length ps
    → ((i : ℕ) → i < k → handed (get_or rs i no_record) (get_or vs i idle) ≡ handed (get_or ps i no_record) (get_or us i idle))
    → ((i : ℕ) → k ≤ i → get_or rs i no_record ≡ get_or ps i no_record) → works_back k vs rs ≡ works_back k us ps
back-ext k vs us rs ps long len below past =
    ext_get_or no_record (works_back k vs rs) (works_back k us ps) (back-length k vs rs ∙ len ∙ sym (back-length k us ps)) (λ i _. go i (ltb i k) refl)
  where
    go : (i : ℕ) (b : Bool) → ltb i k ≡ b → get_or (works_back k vs rs) i no_record ≡ get_or (works_back k us ps) i no_record
    go i true e =
        let l : i < k = ltb-true i k e in
        back_at k vs rs long i l ∙ below i l ∙ sym (back_at k us ps (omega (arith, long, len)) i l)
    go i false e =
        let l : k ≤ i = ltb-false i k e in
        back-past k vs rs i l ∙ past i l ∙ sym (back-past k us ps i l)

-- ---- a cycle that ran, on a memory that has the works of s written back over a base
ran-fine : (m levels : ℕ) (r : Request) (s : State) (ws : List ℕ) → has_run (cycled m levels r s ws).answer ≡ true → cycled m levels r s ws ≡ cycle_run m levels r (rule_now m levels r s ws) s ws
ran-fine m levels r s ws =
    cycled-either m levels r s ws (λ o. has_run o.answer ≡ true → o ≡ cycle_run m levels r (rule_now m levels r s ws) s ws) (λ e. absurd (false≢true e)) (λ e. absurd (false≢true e)) (λ _ _ _. refl)

module _ (m levels : ℕ) (r : Request) (t s : State) (ws : List ℕ) (works : works_of (pred levels) t.records 0 ≡ works_of (pred levels) s.records 0) (mark : t.mark ≡ s.mark)
    (first : pred levels ≤ length t.records) (second : pred levels ≤ length s.records) where
  -- what is left for record i is the same
  abbrev loaded : State → ℕ → Work
  loaded s i = loads m (pred levels) (q m levels r s ws) (works_of (pred levels) s.records 0) (under m (pred levels) ws 0 1) i

  loaded-same : (i : ℕ) → loaded t i ≡ loaded s i
  loaded-same i =
      ap₂ (λ (b : Bool) (p : Works (pred levels)). loads m (pred levels) (rest_words m (pred levels) (work (rule_marked b r (rule_at m levels r ws)).op 0) 0 1 ws) p (under m (pred levels) ws 0 1) i) mark works

  module _ (rs base : List Record) (over : rs ≡ works_back (pred levels) s.records base) (read : (i : ℕ) → i < pred levels → get_or t.records i idle ≡ work_of (get_or rs i no_record))
      (long : pred levels ≤ length base) (stood : Stood (pred levels) s.records base) where
    follow-run : works_back (pred levels) (cycle_run m levels r (rule_now m levels r t ws) t ws).state.records rs ≡ works_back (pred levels) (cycle_run m levels r (rule_now m levels r s ws) s ws).state.records base
    follow-run =
        back-ext (pred levels) _ _ rs base (omega (arith, long, same_length)) same_length
        (λ i l. let is : get_or rs i no_record ≡ handed (get_or base i no_record) (get_or s.records i idle) = ap (λ (l : List Record). get_or l i no_record) over ∙ back_at (pred levels) s.records base long i l in
        ap (handed (get_or rs i no_record)) (run_at m levels r t ws first i l ∙ ap₂ landed (loaded-same i) (read i l))
        ∙ ap (λ (p : Record). handed p (landed (loaded s i) (work_of p))) is
        ∙ handed-twice (get_or base i no_record) (get_or s.records i idle) (loaded s i) (stood i l)
        ∙ sym (ap (handed (get_or base i no_record)) (run_at m levels r s ws second i l)))
        (λ i l. ap (λ (l : List Record). get_or l i no_record) over ∙ back-past (pred levels) s.records base i l)
      where
        same_length : length rs ≡ length base
        same_length = ap length over ∙ back-length (pred levels) s.records base

-- the memory x goes as the machine y, with y's works written back over a base
record Follows (m levels : ℕ) (base : List Record) (x : Memory) (y : Machine) : Type 0 where
  holds : Holds m levels x y
  records : x.records ≡ works_back (levels - 1) y.state.records base
  stood : Stood (levels - 1) y.state.records base
  long : levels - 1 ≤ length base

module _ (m levels : ℕ) (base : List Record) where
  -- where the words are the machine's
  module _ (rs : List Record) (mark : Bool) (s : State) (ws : List ℕ) (f : Follows m levels base (memory rs mark ws) (machine s ws)) (r : Request) where
    abbrev h : Holds m levels (memory rs mark ws) (machine s ws)
    h = f.holds

    abbrev t : State
    t = state_read (levels - 1) rs mark

    same : SameCycle (pred levels) (cycled m levels r t ws) (cycled m levels r s ws)
    same = cycled-same m levels r t s ws (alike m levels rs mark s ws h)

    few : pred levels ≤ length s.records
    few = (alike m levels rs mark s ws h).second

    next-records : (b : Bool) → has_run (cycled m levels r t ws).answer ≡ b → records_back levels rs b (cycled m levels r t ws).state ≡ works_back (levels - 1) (cycled m levels r s ws).state.records base
    next-records true e =
        ap (λ (o : CycleOutcome). works_back (levels - 1) o.state.records rs) (ran-fine m levels r t ws e)
        ∙ subst (λ (k : ℕ). works_back k (cycle_run m levels r (rule_now m levels r t ws) t ws).state.records rs ≡ works_back k (cycle_run m levels r (rule_now m levels r s ws) s ws).state.records base) (sym (sub-one levels))
        (follow-run m levels r t s ws (alike m levels rs mark s ws h).works h.mark (alike m levels rs mark s ws h).first few rs base
        (subst (λ (k : ℕ). rs ≡ works_back k s.records base) (sub-one levels) f.records)
        (λ i l. read_at (levels - 1) rs (held-few m levels rs mark s ws h) i (omega (arith, l, sub-one levels)))
        (omega (arith, f.long, sub-one levels)) (subst (λ (k : ℕ). Stood k s.records base) (sub-one levels) f.stood))
        ∙ ap (λ (o : CycleOutcome). works_back (levels - 1) o.state.records base) (sym (ran-fine m levels r s ws (ap has_run (sym same.answer) ∙ e)))
    next-records false e = f.records ∙ ap (λ (s : State). works_back (levels - 1) s.records base) (sym (left-all m levels r s ws (ap has_run (sym same.answer) ∙ e)))

    follows_next : Follows m levels base (lent_queue m levels r (memory rs mark ws)).next (clocked_queue m levels r (machine s ws)).next
    follows_next = record {
      holds = (cycle-holds m levels rs mark s ws h r).1;
      records = ap (λ (o : LentOutcome). o.records) (lent-cycle m levels rs mark s ws h r) ∙ next-records (has_run (cycled m levels r t ws).answer) refl;
      stood = subst (λ (k : ℕ). Stood k (cycled m levels r s ws).state.records base) (sym (sub-one levels)) (stood_on m levels r s ws base few (subst (λ (k : ℕ). Stood k s.records base) (sub-one levels) f.stood));
      long = f.long;
    }

  follows_on : (r : Request) (x : Memory) (y : Machine) → Follows m levels base x y → Follows m levels base (lent_queue m levels r x).next (clocked_queue m levels r y).next
  follows_on r x y f =
      subst (λ (v : List ℕ). Follows m levels base (lent_queue m levels r (memory x.records x.mark v)).next (clocked_queue m levels r y).next) (sym f.holds.words)
      (follows_next x.records x.mark y.state y.words
      (record { holds = record { shape = f.holds.shape; read = f.holds.read; works = f.holds.works; mark = f.holds.mark; words = refl; few = f.holds.few }; records = f.records; stood = f.stood; long = f.long }) r)

  follows-all : (qs : List Request) (x : Memory) (y : Machine) → Follows m levels base x y → Follows m levels base (leaves (lent_queue m levels) qs x) (leaves (clocked_queue m levels) qs y)
  unfolding leaves
  follows-all [] x y f = f
  follows-all (r ∷ qs) x y f = follows-all qs (lent_queue m levels r x).next (clocked_queue m levels r y).next (follows_on r x y f)

  -- .. is known by the machine
  follows_is : (x : Memory) (y : Machine) → Follows m levels base x y → x ≡ memory (works_back (levels - 1) y.state.records base) y.state.mark y.words
  follows_is x y f = λ i. memory (f.records i) (f.holds.mark i) (f.holds.words i)

-- ---- DRAIN-CYCLES: "The state left is that of exactly so many idle cycles", cycle by cycle in the host's own memory, whatever it holds
module _ (m levels : ℕ) (mark : Bool) (rs : List Record) (ws : List ℕ) (budget : ℕ) where
  abbrev d : LentDrain
  d = lent_drains m levels mark rs ws budget

  module _ (sh : Shape m levels (length ws)) (e : readable (levels - 1) rs ≡ true) where
    abbrev t₀ : State
    t₀ = state_read (levels - 1) rs mark

    h₀ : Holds m levels (memory rs mark ws) (machine t₀ ws)
    h₀ = holds_read m levels rs mark ws sh e

    -- the first cycle that ran writes over the records handed in
    first : number_of (cycled m levels Idle t₀ ws).answer ≡ 0 → Follows m levels rs (lent_queue m levels Idle (memory rs mark ws)).next (clocked_queue m levels Idle (machine t₀ ws)).next
    first z = record {
      holds = (cycle-holds m levels rs mark t₀ ws h₀ Idle).1;
      records = ap (λ (o : LentOutcome). o.records) (lent-cycle m levels rs mark t₀ ws h₀ Idle) ∙ ap (λ (b : Bool). records_back levels rs b (cycled m levels Idle t₀ ws).state) (zero-ran (cycled m levels Idle t₀ ws).answer z);
      stood = stood-cycled m levels rs mark t₀ ws h₀ Idle;
      long = held-long m levels rs mark t₀ ws h₀;
    }

    drained : (n : ℕ) → (drains m levels budget t₀ ws).cycles ≡ n → memory (drain_of levels rs (drains m levels budget t₀ ws)).records (drains m levels budget t₀ ws).state.mark (drains m levels budget t₀ ws).words
        ≡ lent_idles m levels n (memory rs mark ws)
    unfolding leaves
    drained zero c =
        let z = drain-state m levels budget t₀ ws in
        λ i. memory (records_back levels rs (ltb 0 (c i)) (drains m levels budget t₀ ws).state) ((z.1 ∙ ap (λ (n : ℕ). (idles m levels n t₀ ws).state) c) i).mark ((z.0 ∙ ap (λ (n : ℕ). (idles m levels n t₀ ws).words) c) i)
    drained (suc n) c =
        let z = drain-state m levels budget t₀ ws in
        let ran : number_of (cycled m levels Idle t₀ ws).answer ≡ 0 = drain-ran m levels budget t₀ ws 0 (omega (arith, c)) in
        let some : ltb 0 (drains m levels budget t₀ ws).cycles ≡ true = lt-ltb 0 (drains m levels budget t₀ ws).cycles (omega (arith, c)) in
        (λ i. memory (records_back levels rs (some i) ((z.1 ∙ ap (λ (n : ℕ). (idles m levels n t₀ ws).state) c) i)) ((z.1 ∙ ap (λ (n : ℕ). (idles m levels n t₀ ws).state) c) i).mark ((z.0 ∙ ap (λ (n : ℕ). (idles m levels n t₀ ws).words) c) i))
        ∙ sym (follows_is m levels rs _ _ (follows-all m levels rs (replicate n Idle) _ _ (first ran)))

  pub drain-cycles : memory d.records d.mark d.words ≡ lent_idles m levels d.cycles (memory rs mark ws)
  unfolding lent_drains leaves
  drain-cycles = go (readable (levels - 1) rs) refl (shape_ok m levels (length ws)) refl
    where
      left : Bool → LentDrain
      left b = cond b (drain_of levels rs (drains m levels budget (state_read (levels - 1) rs mark) ws)) (lent_drain (Err BadShape) 0 false ws rs mark)

      go : (b : Bool) → readable (levels - 1) rs ≡ b → (c : Bool) → shape_ok m levels (length ws) ≡ c → memory (left b).records (left b).mark (left b).words ≡ lent_idles m levels (left b).cycles (memory rs mark ws)
      go false e c f = refl
      go true e true f = drained (shape_is m levels (length ws) f) e (drains m levels budget (state_read (levels - 1) rs mark) ws).cycles refl
      go true e false f = rw (drain-bad m levels budget (state_read (levels - 1) rs mark) ws f)

-- ---- RECORDS: after any list of cycles from a clear, each record is the by-value machine's, written, and those past levels less one are as the host had them
module _ (m levels : ℕ) (rs : List Record) (mark : Bool) (ws : List ℕ) (sh : Shape m levels (length ws)) (long : levels - 1 ≤ length rs) (qs : List Request) where
  abbrev start' : Memory
  start' = cleared_memory m levels (memory rs mark ws)

  start-records : start'.records ≡ works_back (levels - 1) fresh.records rs
  start-records = ap (λ (o : LentOutcome). o.records) (clear-is m levels rs mark ws sh long)

  records-few : levels - 1 ≤ record_count
  records-few = omega (arith, few-levels m levels (length ws) sh, sh.some)

  same_length : length start'.records ≡ length rs
  same_length = ap length start-records ∙ back-length (levels - 1) fresh.records rs

  -- a clear writes zeros, so that the records are what a cleared machine's works make of themselves
  zeros-at : (i : ℕ) → i < levels - 1 → get_or start'.records i no_record ≡ no_record
  unfolding fresh
  zeros-at i l =
      ap (λ (l : List Record). get_or l i no_record) start-records ∙ back_at (levels - 1) fresh.records rs long i l
      ∙ ap (handed (get_or rs i no_record)) (get_or-replicate record_count i idle idle (omega (arith, l, records-few))) ∙ handed-new (get_or rs i no_record) idle idle-new

  zeros-stay : start'.records ≡ works_back (levels - 1) fresh.records start'.records
  unfolding fresh
  zeros-stay =
      start-records
      ∙ back-ext (levels - 1) fresh.records fresh.records rs start'.records long (sym same_length)
      (λ i l. let w = get_or-replicate record_count i idle idle (omega (arith, l, records-few)) in
      ap (handed (get_or rs i no_record)) w ∙ handed-new (get_or rs i no_record) idle idle-new ∙ sym (ap (handed (get_or start'.records i no_record)) w ∙ handed-new (get_or start'.records i no_record) idle idle-new))
      (λ i l. sym (ap (λ (l : List Record). get_or l i no_record) start-records ∙ back-past (levels - 1) fresh.records rs i l))

  all : Follows m levels start'.records (leaves (lent_queue m levels) qs start') (ran m levels qs ws)
  all =
      follows-all m levels start'.records qs start' (cleared_machine m levels ws)
      (record { holds = clear-holds m levels rs mark ws sh long; records = zeros-stay; stood = stood-fresh (levels - 1) start'.records records-few; long = omega (arith, long, same_length) })

  pub records-are : (i : ℕ) → i < levels - 1 → get_or (leaves (lent_queue m levels) qs start').records i no_record ≡ record_of (get_or (ran m levels qs ws).state.records i idle)
  records-are i l =
      ap (λ (l : List Record). get_or l i no_record) all.records ∙ back_at (levels - 1) (ran m levels qs ws).state.records start'.records all.long i l
      ∙ ap (λ (r : Record). handed r (get_or (ran m levels qs ws).state.records i idle)) (zeros-at i l) ∙ handed-zeros (get_or (ran m levels qs ws).state.records i idle)

  pub records-past : (i : ℕ) → levels - 1 ≤ i → get_or (leaves (lent_queue m levels) qs start').records i no_record ≡ get_or rs i no_record
  records-past i l =
      ap (λ (l : List Record). get_or l i no_record) all.records ∙ back-past (levels - 1) (ran m levels qs ws).state.records start'.records i l
      ∙ ap (λ (l : List Record). get_or l i no_record) start-records ∙ back-past (levels - 1) fresh.records rs i l

-- ---- RECORD FOR RECORD: over a cycle that ran, each of the host's records is loaded, done with, or stands
module _ (m levels : ℕ) (rs : List Record) (mark : Bool) (ws : List ℕ) (r : Request) (sh : Shape m levels (length ws)) (e : readable (levels - 1) rs ≡ true)
    (ran : has_run (lent_cycled m levels mark rs ws r).answer ≡ true) where
  abbrev u : State
  u = state_read (levels - 1) rs mark

  h₁ : Holds m levels (memory rs mark ws) (machine u ws)
  h₁ = holds_read m levels rs mark ws sh e

  did-run : has_run (cycled m levels r u ws).answer ≡ true
  did-run = ap (λ (o : LentOutcome). has_run o.answer) (sym (lent-cycle m levels rs mark u ws h₁ r)) ∙ ran

  run_sound : CycleDamage m levels r u ws → ⊥
  run_sound =
      cycled-either m levels r u ws (λ o. has_run o.answer ≡ true → CycleDamage m levels r u ws → ⊥) (λ f. absurd (false≢true f)) (λ f. absurd (false≢true f)) (λ _ f _. sound-no-damage m levels r u ws f) did-run

  written : (i : ℕ) → i < levels - 1 → get_or (lent_cycled m levels mark rs ws r).records i no_record ≡ handed (get_or rs i no_record) (get_or (cycled m levels r u ws).state.records i idle)
  written i l =
      ap (λ (o : LentOutcome). get_or o.records i no_record) (lent-cycle m levels rs mark u ws h₁ r)
      ∙ ap (λ (b : Bool). get_or (records_back levels rs b (cycled m levels r u ws).state) i no_record) did-run
      ∙ back_at (levels - 1) (cycled m levels r u ws).state.records rs (held-long m levels rs mark u ws h₁) i l

  pub record-for-record : (i : ℕ) → suc i < levels
      → RecordStep (leave_below m levels ws i (level_work m levels r (state_read (levels - 1) rs mark) ws i)) (get_or rs i no_record) (get_or (lent_cycled m levels mark rs ws r).records i no_record)
  record-for-record i l =
      let below : i < levels - 1 = omega (arith, l) in
      let p : Record = get_or rs i no_record in
      let few : pred levels ≤ length u.records = (alike m levels rs mark u ws h₁).second in
      let q : Work = leave_below m levels ws i (level_work m levels r u ws i) in
      let step = (one-step m levels r u ws sh few run_sound).records i l in
      let is : get_or u.records i idle ≡ work_of p = read_at (levels - 1) rs (held-few m levels rs mark u ws h₁) i below in
      let low : p.kind ≤ 3 = kind_at (levels - 1) rs (held-kinds m levels rs mark u ws h₁) i below in
      record {
        loaded = λ some. written i below ∙ ap (handed p) (step.loaded some) ∙ handed-new p q (some-new q ((nothing-fails q.op).shown some));
        finished = λ none kind. written i below ∙ ap (handed p) (step.finished none ((nothing-fails _).found (ap (λ (w : Work). is_nothing w.op) is ∙ some-kind p low kind))) ∙ handed-new p idle idle-new;
        stands = λ none kind. written i below ∙ ap (handed p) (step.stands none (ap (λ (w : Work). w.op) (is ∙ read-nothing p kind)) ∙ is ∙ read-nothing p kind) ∙ handed-stood p standing standing-stands;
      }

  -- PAST: "records past it aren't touched"
  pub records-beyond : (i : ℕ) → levels - 1 ≤ i → get_or (lent_cycled m levels mark rs ws r).records i no_record ≡ get_or rs i no_record
  records-beyond i l =
      ap (λ (o : LentOutcome). get_or o.records i no_record) (lent-cycle m levels rs mark u ws h₁ r)
      ∙ ap (λ (b : Bool). get_or (records_back levels rs b (cycled m levels r u ws).state) i no_record) did-run
      ∙ back-past (levels - 1) (cycled m levels r u ws).state.records rs i l
