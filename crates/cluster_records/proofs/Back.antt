-- What the code of a lent call has read, had cycled and written back is what the definitions say.
use Rattle.laws.specs.Prelude.{BadShape, Bool, List, Request, [], ◌&&◌, ◌+◌, ◌-◌, ◌<◌, ◌∙◌, ◌∷◌, ◌≡◌, ◌≤◌, add-one, ap, ap₂, arith, cond, eq-or-lt_of_le, false, get_or, get_or-set_other, get_or-set_same, has_run, le-leb, le_of_suc-le-suc, leb, length, length-replicate, length-set, ltb, not-suc-le-zero, refl, set, suc, sym, true, true≢false, zero, ℕ, ⊎_elim, Err}
use Rattle.cluster_clock_model.proofs.Laws.{cycled-bad, drain-bad, few-levels}
use Rattle.cluster_clock_model.specs.Prelude.{CycleOutcome, DrainOutcome, clock_cleared, cycle_outcome, cycled, drain_outcome, drains, fresh, no_stage, stage_at, stage_count}
use Rattle.cluster_clock_model.specs.declared.Stage.{Stage}
use Rattle.cluster_records.proofs.Records.{lends-within}
use Rattle.cluster_records.specs.Lent.{ClusterRecord, kind_in, drain_of, kinds_ok, lent_cleared, lent_drain, LentDrain, lent_drains, lent_of, lent_outcome, LentOutcome, lent_cycled, no_record, readable, record_of, records_back, stage_of, stages_back, stages_read}
use Rattle.cluster_records.specs.Steps.{clear_from, cycle_from, drains_from, lends, reach, read, read_of, ended_cycle, ended_drain}
use Rattle.cluster_records.specs.declared.ClusterRead.{ClusterRead}
use Rattle.cluster_model.proofs.Laws.{shape_is}
use Rattle.cluster_model.specs.Prelude.{shape_ok}

-- ---- reading, one after the other
-- a record of the slice, whatever is taken for those past it
pub here : (rs : List ClusterRecord) (i : ℕ) → i < length rs → get_or rs i [] ≡ get_or rs i no_record
here [] i h = absurd (not-suc-le-zero h)
here (r ∷ rs) zero h = refl
here (r ∷ rs) (suc i) h = here rs i (le_of_suc-le-suc h)

pub stages-none : (rs : List ClusterRecord) → fresh ≡ stages_read 0 rs
unfolding stages_read
stages-none rs = refl

pub stages-more : (i : ℕ) (rs : List ClusterRecord) (qs : List Stage) → qs ≡ stages_read i rs → (q : Stage) → q ≡ stage_of (get_or rs i no_record) → set qs i q ≡ stages_read (i + 1) rs
unfolding stages_read
stages-more i rs qs p q e = rw add-one (λ j. set (p j) i (e j))

pub kinds-none : (rs : List ClusterRecord) → true ≡ kinds_ok 0 rs
unfolding kinds_ok
kinds-none rs = refl

pub kinds-more : (i : ℕ) (rs : List ClusterRecord) (ok : Bool) → ok ≡ kinds_ok i rs → (b : Bool) → b ≡ leb (kind_in (get_or rs i no_record)) 3 → ok && b ≡ kinds_ok (i + 1) rs
unfolding kinds_ok
kinds-more i rs ok p b e = rw add-one (λ j. p j && e j)

pub load-ends : (n i : ℕ) (rs : List ClusterRecord) → i ≡ n → (qs : List Stage) → qs ≡ stages_read i rs → (ok : Bool) → ok ≡ kinds_ok i rs → read qs ok ≡ read_of n rs
load-ends n i rs e qs p ok o = (λ j. read (p j) (o j)) ∙ ap (λ (k : ℕ). read_of k rs) e

pub stages-few : (k : ℕ) (rs : List ClusterRecord) → length (stages_read k rs) ≡ stage_count
unfolding stages_read fresh
stages-few zero rs = length-replicate stage_count no_stage
stages-few (suc k) rs = length-set (stages_read k rs) k (stage_of (get_or rs k no_record)) ∙ stages-few k rs

-- ---- writing back, one after the other
pub back_none : (qs : List Stage) (rs : List ClusterRecord) → rs ≡ stages_back 0 qs rs
unfolding stages_back
back_none qs rs = refl

pub back-length : (k : ℕ) (qs : List Stage) (rs : List ClusterRecord) → length (stages_back k qs rs) ≡ length rs
unfolding stages_back
back-length zero qs rs = refl
back-length (suc k) qs rs = length-set (stages_back k qs rs) k (record_of (stage_at qs k)) ∙ back-length k qs rs

-- PAST: "records past it aren't touched"
pub back-past : (k : ℕ) (qs : List Stage) (rs : List ClusterRecord) (j : ℕ) → k ≤ j → get_or (stages_back k qs rs) j no_record ≡ get_or rs j no_record
unfolding stages_back
back-past zero qs rs j h = refl
back-past (suc k) qs rs j h = get_or-set_other (stages_back k qs rs) k j (record_of (stage_at qs k)) no_record (λ e. omega arith) ∙ back-past k qs rs j (omega arith)

pub back_at : (k : ℕ) (qs : List Stage) (rs : List ClusterRecord) → k ≤ length rs → (j : ℕ) → j < k → get_or (stages_back k qs rs) j no_record ≡ record_of (stage_at qs j)
unfolding stages_back
back_at zero qs rs h j l = absurd (not-suc-le-zero l)
back_at (suc k) qs rs h j l =
    ⊎_elim
    (λ e. ap (λ (j : ℕ). get_or (stages_back (suc k) qs rs) j no_record) e ∙ get_or-set_same (stages_back k qs rs) k (record_of (stage_at qs k)) no_record (omega (arith, back-length k qs rs))
    ∙ ap (λ (j : ℕ). record_of (stage_at qs j)) (sym e))
    (λ l. get_or-set_other (stages_back k qs rs) k j (record_of (stage_at qs k)) no_record (λ e. omega arith) ∙ back_at k qs rs (omega arith) j l)
    (eq-or-lt_of_le (le_of_suc-le-suc l))

pub back_more : (i : ℕ) (qs : List Stage) (rs now : List ClusterRecord) → now ≡ stages_back i qs rs → (r : ClusterRecord) → r ≡ record_of (stage_at qs i) → set now i r ≡ stages_back (i + 1) qs rs
unfolding stages_back
back_more i qs rs now p r e = rw add-one (λ j. set (p j) i (e j))

-- ---- the calls
-- a slice that is not lent is too short, or no heap has so many levels
module _ (K levels len n : ℕ) (e : lends levels len ≡ false) where
  unlent : shape_ok K levels n ≡ true → leb (levels - 1) len ≡ false
  unfolding lends
  unlent s = go (leb (levels - 1) len) refl
    where
      go : (b : Bool) → leb (levels - 1) len ≡ b → b ≡ false
      go false f = refl
      go true f =
          let sh = shape_is K levels n s in
          let some : 1 ≤ levels = sh.some in
          let few : levels - 1 ≤ stage_count = omega (arith, sh.some, few-levels K levels n sh) in
          absurd (true≢false (sym (ap₂ (λ (a b : Bool). a && b) (le-leb 1 levels some) (ap₂ (λ (a b : Bool). a && b) (le-leb (levels - 1) stage_count few) f)) ∙ e))

  -- .. so that a shape or the slice is refused
  short-or-bad : (P : Type 0) → (leb (levels - 1) len ≡ false → P) → (shape_ok K levels n ≡ false → P) → P
  short-or-bad P short bad = go (shape_ok K levels n) refl
    where
      go : (b : Bool) → shape_ok K levels n ≡ b → P
      go true s = short (unlent s)
      go false s = bad s

pub readable-short : (k : ℕ) (rs : List ClusterRecord) → leb k (length rs) ≡ false → readable k rs ≡ false
unfolding readable
readable-short k rs e = rw e

pub readable-kinds : (k : ℕ) (rs : List ClusterRecord) → leb k (length rs) ≡ true → readable k rs ≡ kinds_ok k rs
unfolding readable
readable-kinds k rs e = rw e

-- so many records written back, or none
count-back : (levels : ℕ) (rs : List ClusterRecord) (b : Bool) (qs : List Stage) → stages_back (cond b (levels - 1) 0) qs rs ≡ records_back levels rs b qs
count-back levels rs true qs = refl
count-back levels rs false qs = sym (back_none qs rs)

-- what is left of a cycled outcome
abbrev pub left_cycle : ℕ → List ClusterRecord → CycleOutcome → LentOutcome
left_cycle levels rs o = let t = ended_cycle levels o in lent_outcome t.answer o.words (stages_back t.count t.stages rs)

cycle-parts : (levels : ℕ) (rs : List ClusterRecord) (o : CycleOutcome) → left_cycle levels rs o ≡ lent_of levels rs o
cycle-parts levels rs o = ap (lent_outcome o.answer o.words) (count-back levels rs (has_run o.answer) o.records)

abbrev pub left_drain : ℕ → List ClusterRecord → DrainOutcome → LentDrain
left_drain levels rs o = let t = ended_drain levels o in lent_drain t.answer t.cycles t.left o.words (stages_back t.count t.stages rs)

drain-parts : (levels : ℕ) (rs : List ClusterRecord) (o : DrainOutcome) → left_drain levels rs o ≡ drain_of levels rs o
drain-parts levels rs o = ap (lent_drain o.answer o.cycles o.left o.words) (count-back levels rs (ltb 0 o.cycles) o.records)

-- the same on both sides of a test
either : {A : Type 0} (b : Bool) (a : A) → a ≡ cond b a a
either true a = refl
either false a = refl

module _ (K levels : ℕ) (ws : List ℕ) (rs : List ClusterRecord) where
  abbrev d : ClusterRead
  d = read_of (reach levels (length rs)) rs

  kinds-all : lends levels (length rs) ≡ true → readable (levels - 1) rs ≡ kinds_ok (levels - 1) rs
  kinds-all e = readable-kinds (levels - 1) rs (le-leb (levels - 1) (length rs) (lends-within levels (length rs) e))

  -- a slice that is not lent
  module _ (e : lends levels (length rs) ≡ false) where
    cycle-unlent : (r : Request) → lent_outcome (Err BadShape) ws rs ≡ lent_cycled K levels rs ws r
    unfolding lent_cycled
    cycle-unlent r =
        short-or-bad K levels (length rs) (length ws) e _ (λ f. rw (readable-short (levels - 1) rs f))
        (λ f. rw (cycled-bad K levels r (stages_read (levels - 1) rs) ws f) (either (readable (levels - 1) rs) (lent_outcome (Err BadShape) ws rs)))

    drain-unlent : (budget : ℕ) → lent_drain (Err BadShape) 0 false ws rs ≡ lent_drains K levels rs ws budget
    unfolding lent_drains
    drain-unlent budget =
        short-or-bad K levels (length rs) (length ws) e _ (λ f. rw (readable-short (levels - 1) rs f))
        (λ f. rw (drain-bad K levels budget (stages_read (levels - 1) rs) ws f) (either (readable (levels - 1) rs) (lent_drain (Err BadShape) 0 false ws rs)))

    clear-unlent : lent_outcome (Err BadShape) ws rs ≡ lent_cleared K levels rs ws
    unfolding lent_cleared clock_cleared
    clear-unlent =
        short-or-bad K levels (length rs) (length ws) e _ (λ f. rw f) (λ f. rw f (either (leb (levels - 1) (length rs)) (lent_outcome (Err BadShape) ws rs)))

  -- LENT: a cycle, a drain, a clear
  pub cycle-lent : (r : Request) → left_cycle levels rs (cycle_from K levels (length rs) ws d r) ≡ lent_cycled K levels rs ws r
  unfolding cycle_from lent_cycled
  cycle-lent r = cycle-parts levels rs (cycle_from K levels (length rs) ws d r) ∙ go (lends levels (length rs)) refl
    where
      read : (ok : Bool) → lent_of levels rs (cond ok (cycled K levels r (stages_read (levels - 1) rs) ws) (cycle_outcome (Err BadShape) ws (stages_read (levels - 1) rs)))
          ≡ cond ok (lent_of levels rs (cycled K levels r (stages_read (levels - 1) rs) ws)) (lent_outcome (Err BadShape) ws rs)
      read true = refl
      read false = refl

      go : (b : Bool) → lends levels (length rs) ≡ b → lent_of levels rs (cycle_from K levels (length rs) ws d r) ≡ lent_cycled K levels rs ws r
      go true e = rw (e, kinds-all e) (read (kinds_ok (levels - 1) rs))
      go false e = rw e (cycle-unlent e r)

  pub drain-lent : (budget : ℕ) → left_drain levels rs (drains_from K levels (length rs) ws d budget) ≡ lent_drains K levels rs ws budget
  unfolding drains_from lent_drains
  drain-lent budget = drain-parts levels rs (drains_from K levels (length rs) ws d budget) ∙ go (lends levels (length rs)) refl
    where
      read : (ok : Bool) → drain_of levels rs (cond ok (drains K levels budget (stages_read (levels - 1) rs) ws) (drain_outcome (Err BadShape) 0 false ws (stages_read (levels - 1) rs)))
          ≡ cond ok (drain_of levels rs (drains K levels budget (stages_read (levels - 1) rs) ws)) (lent_drain (Err BadShape) 0 false ws rs)
      read true = refl
      read false = refl

      go : (b : Bool) → lends levels (length rs) ≡ b → drain_of levels rs (drains_from K levels (length rs) ws d budget) ≡ lent_drains K levels rs ws budget
      go true e = rw (e, kinds-all e) (read (kinds_ok (levels - 1) rs))
      go false e = rw e (drain-unlent e budget)

  pub clear-lent : left_cycle levels rs (clear_from K levels (length rs) ws) ≡ lent_cleared K levels rs ws
  unfolding clear_from lent_cleared
  clear-lent = cycle-parts levels rs (clear_from K levels (length rs) ws) ∙ go (lends levels (length rs)) refl
    where
      go : (b : Bool) → lends levels (length rs) ≡ b → lent_of levels rs (clear_from K levels (length rs) ws) ≡ lent_cleared K levels rs ws
      go true e = rw (e, le-leb (levels - 1) (length rs) (lends-within levels (length rs) e))
      go false e = rw e (clear-unlent e)
