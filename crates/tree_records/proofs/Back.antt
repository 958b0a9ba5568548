-- What the code of a lent call has read, had ended and written back is what the definitions say.
use Rattle.laws.specs.Prelude.{BadShape, Bool, List, Request, ◌&&◌, ◌-◌, ◌<◌, ◌∙◌, ◌≡◌, ◌≤◌, ap, ap₂, arith, cond, eq-or-lt_of_le, false, get_or, get_or-set_other, get_or-set_same, le-leb, le_of_suc-le-suc, leb, length, length-replicate, length-set, ltb, not-suc-le-zero, refl, set, suc, sym, true, true≢false, zero, ℕ, ⊎_elim, Err}
use Rattle.tree_clock_model.proofs.Laws.{cycled-bad, drain-bad, few-levels}
use Rattle.tree_clock_model.specs.Prelude.{CycleOutcome, DrainOutcome, clocked_cleared, cycle_outcome, cycled, drain_outcome, drains, has_run, record_count}
use Rattle.tree_clock_model.specs.declared.State.{State}
use Rattle.tree_records.proofs.Records.{lends-within}
use Rattle.tree_records.specs.Lent.{drain_of, handed, kinds_ok, lent_cleared, lent_cycled, lent_drain, LentDrain, lent_drains, lent_of, lent_outcome, LentOutcome, no_record, readable, records_back, state_read, work_of, works_back, works_read}
use Rattle.tree_records.specs.Steps.{clear_from, cycle_from, drain_from, lends, reach, read_of, ended_cycle, ended_drain}
use Rattle.tree_records.specs.declared.Read.{Read}
use Rattle.tree_records.specs.declared.Record.{Record}
use Rattle.tree_model.proofs.Laws.{shape_is}
use Rattle.tree_model.specs.Prelude.{idle, shape_ok}
use Rattle.tree_model.specs.declared.Work.{Work}

-- ---- reading, one after the other
pub works-few : (k : ℕ) (rs : List Record) → length (works_read k rs) ≡ record_count
unfolding works_read
works-few zero rs = length-replicate record_count idle
works-few (suc k) rs = length-set (works_read k rs) k (work_of (get_or rs k no_record)) ∙ works-few k rs

-- ---- writing back, one after the other
pub back_none : (vs : List Work) (rs : List Record) → works_back 0 vs rs ≡ rs
unfolding works_back
back_none vs rs = refl

pub back-length : (k : ℕ) (vs : List Work) (rs : List Record) → length (works_back k vs rs) ≡ length rs
unfolding works_back
back-length zero vs rs = refl
back-length (suc k) vs rs = length-set (works_back k vs rs) k (handed (get_or rs k no_record) (get_or vs k idle)) ∙ back-length k vs rs

-- PAST: "records past it aren't touched"
pub back-past : (k : ℕ) (vs : List Work) (rs : List Record) (j : ℕ) → k ≤ j → get_or (works_back k vs rs) j no_record ≡ get_or rs j no_record
unfolding works_back
back-past zero vs rs j h = refl
back-past (suc k) vs rs j h = get_or-set_other (works_back k vs rs) k j (handed (get_or rs k no_record) (get_or vs k idle)) no_record (λ e. omega arith) ∙ back-past k vs rs j (omega arith)

pub back_at : (k : ℕ) (vs : List Work) (rs : List Record) → k ≤ length rs → (j : ℕ) → j < k → get_or (works_back k vs rs) j no_record ≡ handed (get_or rs j no_record) (get_or vs j idle)
unfolding works_back
back_at zero vs rs h j l = absurd (not-suc-le-zero l)
back_at (suc k) vs rs h j l =
    ⊎_elim
    (λ e. ap (λ (j : ℕ). get_or (works_back (suc k) vs rs) j no_record) e ∙ get_or-set_same (works_back k vs rs) k (handed (get_or rs k no_record) (get_or vs k idle)) no_record (omega (arith, back-length k vs rs))
    ∙ ap (λ (j : ℕ). handed (get_or rs j no_record) (get_or vs j idle)) (sym e))
    (λ l. get_or-set_other (works_back k vs rs) k j (handed (get_or rs k no_record) (get_or vs k idle)) no_record (λ e. omega arith) ∙ back_at k vs rs (omega arith) j l)
    (eq-or-lt_of_le (le_of_suc-le-suc l))

-- the record that is handed over next stands as yet
pub back-next : (i : ℕ) (vs : List Work) (rs : List Record) (e : Record) → e ≡ handed (get_or (works_back i vs rs) i no_record) (get_or vs i idle) → set (works_back i vs rs) i e ≡ works_back (suc i) vs rs
unfolding works_back
back-next i vs rs e p = ap (set (works_back i vs rs) i) (p ∙ ap (λ (r : Record). handed r (get_or vs i idle)) (back-past i vs rs i (omega arith)))

-- ---- the calls
-- a slice that is not lent is too short, or no tree has so many levels
module _ (m levels len n : ℕ) (e : lends levels len ≡ false) where
  unlent : shape_ok m levels n ≡ true → leb (levels - 1) len ≡ false
  unfolding lends
  unlent s = go (leb (levels - 1) len) refl
    where
      go : (b : Bool) → leb (levels - 1) len ≡ b → b ≡ false
      go false f = refl
      go true f =
          let sh = shape_is m levels n s in
          let few : levels - 1 ≤ record_count = omega (arith, sh.some, few-levels m levels n sh) in
          absurd (true≢false (sym (ap₂ (λ (a b : Bool). a && b) (le-leb 1 levels sh.some) (ap₂ (λ (a b : Bool). a && b) (le-leb (levels - 1) record_count few) f)) ∙ e))

  -- .. so that a shape or the slice is refused
  short-or-bad : (P : Type 0) → (leb (levels - 1) len ≡ false → P) → (shape_ok m levels n ≡ false → P) → P
  short-or-bad P short bad = go (shape_ok m levels n) refl
    where
      go : (b : Bool) → shape_ok m levels n ≡ b → P
      go true s = short (unlent s)
      go false s = bad s

pub readable-short : (k : ℕ) (rs : List Record) → leb k (length rs) ≡ false → readable k rs ≡ false
unfolding readable
readable-short k rs e = rw e

pub readable-kinds : (k : ℕ) (rs : List Record) → leb k (length rs) ≡ true → readable k rs ≡ kinds_ok k rs
unfolding readable
readable-kinds k rs e = rw e

-- so many records written back, or none
count-back : (levels : ℕ) (rs : List Record) (b : Bool) (s : State) → works_back (cond b (levels - 1) 0) s.records rs ≡ records_back levels rs b s
count-back levels rs true s = refl
count-back levels rs false s = back_none s.records rs

-- what is left of a ended outcome
abbrev left_cycle : ℕ → List Record → CycleOutcome → LentOutcome
left_cycle levels rs o = let t = ended_cycle levels o in lent_outcome t.answer o.words (works_back t.count t.state.records rs) t.state.mark

cycle-parts : (levels : ℕ) (rs : List Record) (o : CycleOutcome) → left_cycle levels rs o ≡ lent_of levels rs o
cycle-parts levels rs o = ap (λ (rs : List Record). lent_outcome o.answer o.words rs o.state.mark) (count-back levels rs (has_run o.answer) o.state)

abbrev left_drain : ℕ → List Record → DrainOutcome → LentDrain
left_drain levels rs o = let t = ended_drain levels o in lent_drain t.answer t.cycles t.left o.words (works_back t.count t.state.records rs) t.state.mark

drain-parts : (levels : ℕ) (rs : List Record) (o : DrainOutcome) → left_drain levels rs o ≡ drain_of levels rs o
drain-parts levels rs o = ap (λ (rs : List Record). lent_drain o.answer o.cycles o.left o.words rs o.state.mark) (count-back levels rs (ltb 0 o.cycles) o.state)

module _ (m levels : ℕ) (mark : Bool) (ws : List ℕ) (rs : List Record) where
  abbrev d : Read
  d = read_of (reach levels (length rs)) rs

  -- what is read of a slice that is lent
  module _ (e : lends levels (length rs) ≡ true) where
    kinds-all : readable (levels - 1) rs ≡ kinds_ok (levels - 1) rs
    kinds-all = readable-kinds (levels - 1) rs (le-leb (levels - 1) (length rs) (lends-within levels (length rs) e))

  -- a slice that is not lent
  module _ (e : lends levels (length rs) ≡ false) where
    cycle-unlent : (r : Request) → lent_outcome (Err BadShape) ws rs mark ≡ lent_cycled m levels mark rs ws r
    unfolding lent_cycled
    cycle-unlent r =
        short-or-bad m levels (length rs) (length ws) e _ (λ f. rw (readable-short (levels - 1) rs f))
        (λ f. rw (cycled-bad m levels r (state_read (levels - 1) rs mark) ws f) (either (readable (levels - 1) rs)))
      where
        either : (b : Bool) → lent_outcome (Err BadShape) ws rs mark ≡ cond b (lent_outcome (Err BadShape) ws rs mark) (lent_outcome (Err BadShape) ws rs mark)
        either true = refl
        either false = refl

    drain-unlent : (budget : ℕ) → lent_drain (Err BadShape) 0 false ws rs mark ≡ lent_drains m levels mark rs ws budget
    unfolding lent_drains
    drain-unlent budget =
        short-or-bad m levels (length rs) (length ws) e _ (λ f. rw (readable-short (levels - 1) rs f))
        (λ f. rw (drain-bad m levels budget (state_read (levels - 1) rs mark) ws f) (either (readable (levels - 1) rs)))
      where
        either : (b : Bool) → lent_drain (Err BadShape) 0 false ws rs mark ≡ cond b (lent_drain (Err BadShape) 0 false ws rs mark) (lent_drain (Err BadShape) 0 false ws rs mark)
        either true = refl
        either false = refl

    clear-unlent : lent_outcome (Err BadShape) ws rs mark ≡ lent_cleared m levels mark rs ws
    unfolding lent_cleared clocked_cleared
    clear-unlent =
        short-or-bad m levels (length rs) (length ws) e _ (λ f. rw f) (λ f. rw f (either (leb (levels - 1) (length rs))))
      where
        either : (b : Bool) → lent_outcome (Err BadShape) ws rs mark ≡ cond b (lent_outcome (Err BadShape) ws rs mark) (lent_outcome (Err BadShape) ws rs mark)
        either true = refl
        either false = refl

  -- LENT: a cycle, a drain, a clear
  pub cycle-lent : (r : Request) → left_cycle levels rs (cycle_from m levels (length rs) mark ws d r) ≡ lent_cycled m levels mark rs ws r
  unfolding cycle_from lent_cycled
  cycle-lent r = cycle-parts levels rs (cycle_from m levels (length rs) mark ws d r) ∙ go (lends levels (length rs)) refl
    where
      read : (ok : Bool) → lent_of levels rs (cond ok (cycled m levels r (state_read (levels - 1) rs mark) ws) (cycle_outcome (Err BadShape) ws (state_read (levels - 1) rs mark)))
          ≡ cond ok (lent_of levels rs (cycled m levels r (state_read (levels - 1) rs mark) ws)) (lent_outcome (Err BadShape) ws rs mark)
      read true = refl
      read false = refl

      go : (b : Bool) → lends levels (length rs) ≡ b → lent_of levels rs (cycle_from m levels (length rs) mark ws d r) ≡ lent_cycled m levels mark rs ws r
      go true e = rw (e, kinds-all e) (read (kinds_ok (levels - 1) rs))
      go false e = rw e (cycle-unlent e r)

  pub drain-lent : (budget : ℕ) → left_drain levels rs (drain_from m levels (length rs) mark ws d budget) ≡ lent_drains m levels mark rs ws budget
  unfolding drain_from lent_drains
  drain-lent budget = drain-parts levels rs (drain_from m levels (length rs) mark ws d budget) ∙ go (lends levels (length rs)) refl
    where
      read : (ok : Bool) → drain_of levels rs (cond ok (drains m levels budget (state_read (levels - 1) rs mark) ws) (drain_outcome (Err BadShape) 0 false ws (state_read (levels - 1) rs mark)))
          ≡ cond ok (drain_of levels rs (drains m levels budget (state_read (levels - 1) rs mark) ws)) (lent_drain (Err BadShape) 0 false ws rs mark)
      read true = refl
      read false = refl

      go : (b : Bool) → lends levels (length rs) ≡ b → drain_of levels rs (drain_from m levels (length rs) mark ws d budget) ≡ lent_drains m levels mark rs ws budget
      go true e = rw (e, kinds-all e) (read (kinds_ok (levels - 1) rs))
      go false e = rw e (drain-unlent e budget)

  pub clear-lent : left_cycle levels rs (clear_from m levels (length rs) mark ws) ≡ lent_cleared m levels mark rs ws
  unfolding clear_from lent_cleared
  clear-lent = cycle-parts levels rs (clear_from m levels (length rs) mark ws) ∙ go (lends levels (length rs)) refl
    where
      go : (b : Bool) → lends levels (length rs) ≡ b → lent_of levels rs (clear_from m levels (length rs) mark ws) ≡ lent_cleared m levels mark rs ws
      go true e = rw (e, le-leb (levels - 1) (length rs) (lends-within levels (length rs) e))
      go false e = rw e (clear-unlent e)
