-- A lent drain is so many lent idle cycles, record for record, and gives each refusal exactly for its cause. A cycle's and a clear's tables are in `Exactly.antt`.
use Rattle.laws.specs.Prelude.{BadShape, Bool, Exactly, Idle, List, Refusal, Request, [], ◌-◌, ◌<◌, ◌∙◌, ◌∷◌, ◌≡◌, ◌≤◌, ap, arith, cond, ext_get_or, false, get_or, has_run, length, lt-ltb, ltb, ltb-false, ltb-true, not, number_of, refl, replicate, subst, suc, sym, true, zero, ℕ, Err}
use Rattle.promise.specs.Prelude.{is_bad_shape, leaves, zero-ran}
use Rattle.cluster_clock_model.proofs.Drain as model
use Rattle.cluster_clock_model.proofs.Laws.{drain-bad, drain-ran, drain-state}
use Rattle.cluster_clock_model.specs.Prelude.{CycleOutcome, DrainOutcome, Machine, cycle_queue, cycled, drain_left, drain_outcome, drain_refusals, drains, idles, machine}
use Rattle.cluster_clock_model.specs.declared.Stage.{Stage}
use Rattle.cluster_records.proofs.History.{history-cycle, holds_read, left-all}
use Rattle.cluster_records.specs.History.{Holds, lent_drain_left, lent_idles, lent_queue, Memory, memory}
use Rattle.cluster_records.proofs.Back.{back_at, back-length, back-past}
use Rattle.cluster_records.proofs.Exactly.{readable-means}
use Rattle.cluster_records.specs.Lent.{ClusterRecord, drain_of, lent_drain, LentDrain, lent_drains, lent_of, LentOutcome, lent_cycled, no_record, readable, records_back, stages_back, stages_read}
use Rattle.cluster_records.specs.Refusals.{lent_drain_refusals, Readable}
use Rattle.cluster_model.proofs.Laws.{shape_is}
use Rattle.cluster_model.specs.Prelude.{Shape, shape_ok}
use Rattle.promise.proofs.Handed.{exactly-behind}

-- records written over others are written
back-twice : (k : ℕ) (qs ps : List Stage) (rs : List ClusterRecord) → k ≤ length rs → stages_back k qs (stages_back k ps rs) ≡ stages_back k qs rs
back-twice k qs ps rs long =
    ext_get_or no_record (stages_back k qs (stages_back k ps rs)) (stages_back k qs rs) (back-length k qs (stages_back k ps rs) ∙ back-length k ps rs ∙ sym (back-length k qs rs)) (λ i _. go i (ltb i k) refl)
  where
    go : (i : ℕ) (b : Bool) → ltb i k ≡ b → get_or (stages_back k qs (stages_back k ps rs)) i no_record ≡ get_or (stages_back k qs rs) i no_record
    go i true e =
        let l : i < k = ltb-true i k e in
        back_at k qs (stages_back k ps rs) (omega (arith, long, back-length k ps rs)) i l ∙ sym (back_at k qs rs long i l)
    go i false e =
        let l : k ≤ i = ltb-false i k e in
        back-past k qs (stages_back k ps rs) i l ∙ back-past k ps rs i l ∙ sym (back-past k qs rs i l)

-- the memory x goes as the machine y, with y's records written over a base
record Follows (K levels : ℕ) (base : List ClusterRecord) (x : Memory) (y : Machine) : Type 0 where
  holds : Holds K levels x y
  records : x.records ≡ stages_back (levels - 1) y.records base
  long : levels - 1 ≤ length base

module _ (K levels : ℕ) where
  -- a lent cycle of a memory that holds a machine
  cycled-as : (r : Request) (x : Memory) (y : Machine) → Holds K levels x y → lent_cycled K levels x.records x.words r ≡ lent_of levels x.records (cycled K levels r y.records y.words)
  unfolding lent_cycled
  cycled-as r x y h = rw (h.read, h.stages, h.words)

  module _ (base : List ClusterRecord) where
    follows_on : (r : Request) (x : Memory) (y : Machine) → Follows K levels base x y → Follows K levels base (lent_queue K levels r x).next (cycle_queue K levels r y).next
    follows_on r x y f = record {
      holds = (history-cycle K levels r x y f.holds).1;
      records = ap (λ (o : LentOutcome). o.records) (cycled-as r x y f.holds) ∙ back (has_run o.answer) refl;
      long = f.long;
    }
      where
        o : CycleOutcome
        o = cycled K levels r y.records y.words

        back : (b : Bool) → has_run o.answer ≡ b → records_back levels x.records b o.records ≡ stages_back (levels - 1) o.records base
        back true e = ap (stages_back (levels - 1) o.records) f.records ∙ back-twice (levels - 1) o.records y.records base f.long
        back false e = f.records ∙ ap (λ (qs : List Stage). stages_back (levels - 1) qs base) (sym (left-all K levels r y.records y.words e))

    follows-all : (qs : List Request) (x : Memory) (y : Machine) → Follows K levels base x y → Follows K levels base (leaves (lent_queue K levels) qs x) (leaves (cycle_queue K levels) qs y)
    unfolding leaves
    follows-all [] x y f = f
    follows-all (r ∷ qs) x y f = follows-all qs (lent_queue K levels r x).next (cycle_queue K levels r y).next (follows_on r x y f)

    follows_is : (x : Memory) (y : Machine) → Follows K levels base x y → x ≡ memory (stages_back (levels - 1) y.records base) y.words
    follows_is x y f = λ i. memory (f.records i) (f.holds.words i)

-- ---- DRAIN-CYCLES: "The state left is that of exactly so many idle cycles", cycle by cycle in the host's own memory, whatever it holds
module _ (K levels : ℕ) (rs : List ClusterRecord) (ws : List ℕ) (budget : ℕ) where
  abbrev qs : List Stage
  qs = stages_read (levels - 1) rs

  abbrev d : LentDrain
  d = lent_drains K levels rs ws budget

  abbrev o : DrainOutcome
  o = drains K levels budget qs ws

  z : (o.words ≡ (idles K levels o.cycles (machine qs ws)).words) × (o.records ≡ (idles K levels o.cycles (machine qs ws)).records)
  z = drain-state K levels budget qs ws

  module _ (sh : Shape K levels (length ws)) (e : readable (levels - 1) rs ≡ true) where
    -- the first cycle that ran writes over the records handed in
    first : number_of (cycled K levels Idle qs ws).answer ≡ 0 → Follows K levels rs (lent_queue K levels Idle (memory rs ws)).next (cycle_queue K levels Idle (machine qs ws)).next
    first ran = record {
      holds = (history-cycle K levels Idle (memory rs ws) (machine qs ws) (holds_read K levels rs ws sh e)).1;
      records =
          ap (λ (o : LentOutcome). o.records) (cycled-as K levels Idle (memory rs ws) (machine qs ws) (holds_read K levels rs ws sh e))
          ∙ ap (λ (b : Bool). records_back levels rs b (cycled K levels Idle qs ws).records) (zero-ran (cycled K levels Idle qs ws).answer ran);
      long = ((readable-means (levels - 1) rs).says e).long;
    }

    drained : (n : ℕ) → o.cycles ≡ n → memory (drain_of levels rs o).records o.words ≡ lent_idles K levels n (memory rs ws)
    unfolding leaves
    drained zero c = λ i. memory (records_back levels rs (ltb 0 (c i)) o.records) ((z.0 ∙ ap (λ (n : ℕ). (idles K levels n (machine qs ws)).words) c) i)
    drained (suc n) c =
        let some : ltb 0 o.cycles ≡ true = lt-ltb 0 o.cycles (omega (arith, c)) in
        (λ i. memory (records_back levels rs (some i) ((z.1 ∙ ap (λ (n : ℕ). (idles K levels n (machine qs ws)).records) c) i)) ((z.0 ∙ ap (λ (n : ℕ). (idles K levels n (machine qs ws)).words) c) i))
        ∙ sym (follows_is K levels rs _ _ (follows-all K levels rs (replicate n Idle) _ _ (first (drain-ran K levels budget qs ws 0 (omega (arith, c))))))

  pub drain-cycles : memory d.records d.words ≡ lent_idles K levels d.cycles (memory rs ws)
  unfolding lent_drains leaves
  drain-cycles = go (readable (levels - 1) rs) refl (shape_ok K levels (length ws)) refl
    where
      left : Bool → LentDrain
      left b = cond b (drain_of levels rs o) (lent_drain (Err BadShape) 0 false ws rs)

      go : (b : Bool) → readable (levels - 1) rs ≡ b → (c : Bool) → shape_ok K levels (length ws) ≡ c → memory (left b).records (left b).words ≡ lent_idles K levels (left b).cycles (memory rs ws)
      go false e c f = refl
      go true e true f = drained (shape_is K levels (length ws) f) e o.cycles refl
      go true e false f = rw (drain-bad K levels budget qs ws f)

  -- ---- the table
  drain-read : readable (levels - 1) rs ≡ true → d ≡ drain_of levels rs o
  unfolding lent_drains
  drain-read e = rw e

  drain-by : cond (readable (levels - 1) rs) (drain_of levels rs o) (lent_drain_left K levels d.cycles (memory rs ws) BadShape) ≡ d
  unfolding lent_drains leaves
  drain-by = refl

  drain-left-as : readable (levels - 1) rs ≡ true → (n : Refusal) → drain_of levels rs (drain_left K levels o.cycles qs ws n) ≡ lent_drain_left K levels d.cycles (memory rs ws) n
  unfolding leaves
  drain-left-as e n = go (is_bad_shape n)
    where
      go : (b : Bool) → (let ran = cond b 0 o.cycles in let did = cond b 0 d.cycles in let x = lent_idles K levels did (memory rs ws) in
          drain_of levels rs (drain_outcome (Err n) ran (not b) (idles K levels ran (machine qs ws)).words (idles K levels ran (machine qs ws)).records) ≡ lent_drain (Err n) did (not b) x.words x.records)
      go true = refl
      go false =
          (λ i. lent_drain (Err n) o.cycles true (sym z.0 i) (records_back levels rs (ltb 0 o.cycles) (sym z.1 i)))
          ∙ ap (λ (d : LentDrain). lent_drain (Err n) d.cycles true d.words d.records) (sym (drain-read e))
          ∙ ap (λ (x : Memory). lent_drain (Err n) d.cycles true x.words x.records) drain-cycles

  -- EXACTLY: a lent drain. Refused 2 it leaves the memory of the cycles already run
  pub exactly-drain : Exactly (λ (d : LentDrain). number_of d.answer) (lent_drain_left K levels d.cycles (memory rs ws)) d (lent_drain_refusals K levels rs ws budget)
  exactly-drain =
      subst (λ (v : LentDrain). Exactly (λ (d : LentDrain). number_of d.answer) (lent_drain_left K levels d.cycles (memory rs ws)) v (lent_drain_refusals K levels rs ws budget)) drain-by
      (exactly-behind (λ (d : DrainOutcome). number_of d.answer) (drain_left K levels o.cycles qs ws) (λ (d : LentDrain). number_of d.answer) (lent_drain_left K levels d.cycles (memory rs ws)) (drain_of levels rs) (λ o. refl) (λ n. refl) (λ n. refl)
      (readable (levels - 1) rs) (Readable (levels - 1) rs) BadShape o (drain_refusals K levels budget qs ws) (readable-means (levels - 1) rs) (model.exactly-drain K levels budget qs ws)
      (λ p n u. drain-left-as ((readable-means (levels - 1) rs).holds p) n))
