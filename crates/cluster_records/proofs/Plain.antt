-- Records written and read again: what a cycle leaves comes back as it was.
use Rattle.laws.specs.Prelude.{Bool, List, Request, ◌+◌, ◌<◌, ◌∙◌, ◌≡◌, ◌≤◌, ◌⊎◌, and-true, ap, arith, cond, eq-or-lt_of_le, eqb, ext_get_or, false, get_or, get_or-replicate, get_or-set_other, get_or-set_same, inl, inr, le-leb, le_of_suc-le-suc, leb, leb-false, leb-true, length, length-replicate, length-set, not-suc-le-zero, pred, refl, replicate, set, subst, suc, sym, true, zero, ℕ, ⊎_elim}
use lib.ListN.{get_or-eq_default}
use Rattle.cluster_clock_model.proofs.Laws.{cycled-either, pass-others, pass-records}
use Rattle.cluster_clock_model.specs.Prelude.{Work, begins, below, cycle_run, cycled, filled, fresh, handed, level_stage, level_words, loaded, no_stage, pass, stage, stage_at, stage_count, work}
use Rattle.cluster_clock_model.specs.declared.Due.{Due}
use Rattle.cluster_clock_model.specs.declared.Due.TheVariants.{Fill, Nothing, Put, Swap}
use Rattle.cluster_clock_model.specs.declared.Stage.{Stage}
use Rattle.cluster_records.proofs.Back.{back_at, stages-few}
use Rattle.cluster_records.specs.Lent.{at_node, at_place, ClusterRecord, kind_in, carries, kinds_ok, no_record, record_by, record_of, stage_of, stages_back, stages_read}
use Rattle.cluster_model.specs.Prelude.{Note, Ruling, fill, lhs, nothing, onto, rhs, rule_at, trial}

either : (b : Bool) → (b ≡ true) ⊎ (b ≡ false)
either true = inl refl
either false = inr refl

-- ---- one record
abbrev Again : Stage → Type 0
Again q = stage_of (record_of q) ≡ q

again-none : Again no_stage
unfolding stage_of
again-none = refl

again-loaded : (c : Note) (n : ℕ) → Again (loaded c n)
unfolding stage_of loaded
again-loaded nothing n = refl
again-loaded (fill j) n = refl
again-loaded (trial j x) n = refl
again-loaded (onto lhs y) n = refl
again-loaded (onto rhs y) n = refl

-- what is read is read again
again-read : (r : ClusterRecord) → Again (stage_of r)
unfolding stage_of
again-read r = go (eqb (kind_in r) 1) (eqb (kind_in r) 2) (eqb (kind_in r) 3)
  where
    go : (a b c : Bool) → Again (cond a (stage (Put (carries r)) (at_node r)) (cond b (stage (Fill (at_place r)) (at_node r)) (cond c (stage (Swap (at_place r) (carries r)) (at_node r)) no_stage)))
    go true b c = refl
    go false true c = refl
    go false false true = refl
    go false false false = refl

kind-low : (d : Due) (n : ℕ) → kind_in (record_by d n) ≤ 3
kind-low Nothing n = omega arith
kind-low (Put y) n = omega arith
kind-low (Fill j) n = omega arith
kind-low (Swap j x) n = omega arith

-- ---- the records of k levels, and none pending past them
pub record Plain (k : ℕ) (qs : List Stage) : Type 0 where
  pub few : length qs ≡ stage_count
  pub again : (j : ℕ) → j < k → Again (stage_at qs j)
  pub past : (j : ℕ) → k ≤ j → j < stage_count → stage_at qs j ≡ no_stage

fresh-none : (j : ℕ) → j < stage_count → stage_at fresh j ≡ no_stage
unfolding fresh
fresh-none j h = get_or-replicate stage_count j no_stage no_stage h

-- what is read of record j, and past the k-th
read_past : (k : ℕ) (rs : List ClusterRecord) (j : ℕ) → k ≤ j → j < stage_count → stage_at (stages_read k rs) j ≡ no_stage
unfolding stages_read
read_past zero rs j h l = fresh-none j l
read_past (suc k) rs j h l = get_or-set_other (stages_read k rs) k j (stage_of (get_or rs k no_record)) no_stage (λ e. omega arith) ∙ read_past k rs j (omega arith) l

read_at : (k : ℕ) (rs : List ClusterRecord) → k ≤ stage_count → (j : ℕ) → j < k → stage_at (stages_read k rs) j ≡ stage_of (get_or rs j no_record)
unfolding stages_read
read_at zero rs h j l = absurd (not-suc-le-zero l)
read_at (suc k) rs h j l =
    ⊎_elim
    (λ (e : j ≡ k). ap (stage_at (stages_read (suc k) rs)) e ∙ get_or-set_same (stages_read k rs) k (stage_of (get_or rs k no_record)) no_stage (omega (arith, stages-few k rs)) ∙ ap (λ (j : ℕ). stage_of (get_or rs j no_record)) (sym e))
    (λ (m : j < k). get_or-set_other (stages_read k rs) k j (stage_of (get_or rs k no_record)) no_stage (λ e. omega arith) ∙ read_at k rs (omega arith) j m)
    (eq-or-lt_of_le (le_of_suc-le-suc l))

pub plain-read : (k : ℕ) (rs : List ClusterRecord) → k ≤ stage_count → Plain k (stages_read k rs)
plain-read k rs h = record {
  few = stages-few k rs;
  again = λ j l. subst Again (sym (read_at k rs h j l)) (again-read (get_or rs j no_record));
  past = read_past k rs;
}

-- a cleared machine's records are nothing, in every place
pub plain-fresh : (k : ℕ) → Plain k fresh
unfolding fresh
plain-fresh k = record {
  few = length-replicate stage_count no_stage;
  again = λ j l. subst Again (sym (none j)) again-none;
  past = λ j b l. fresh-none j l;
}
  where
    none : (j : ℕ) → stage_at (replicate stage_count no_stage) j ≡ no_stage
    none j = go (leb stage_count j) refl
      where
        go : (b : Bool) → leb stage_count j ≡ b → stage_at (replicate stage_count no_stage) j ≡ no_stage
        go true e = get_or-eq_default (replicate stage_count no_stage) no_stage (leb-true stage_count j e)
        go false e = get_or-replicate stage_count j no_stage no_stage (leb-false stage_count j e)

-- BACK: written back and read again, they are as they were
module _ (k : ℕ) (qs : List Stage) (rs : List ClusterRecord) (h : k ≤ stage_count) (long : k ≤ length rs) (p : Plain k qs) where
  pub read_back : stages_read k (stages_back k qs rs) ≡ qs
  read_back = ext_get_or no_stage (stages_read k (stages_back k qs rs)) qs (stages-few k (stages_back k qs rs) ∙ sym p.few) (λ j l. at j (subst (λ (n : ℕ). j < n) (stages-few k (stages_back k qs rs)) l))
    where
      here : (j : ℕ) → j < stage_count → (leb k j ≡ true) ⊎ (leb k j ≡ false) → stage_at (stages_read k (stages_back k qs rs)) j ≡ stage_at qs j
      here j l (inl e) = read_past k (stages_back k qs rs) j (leb-true k j e) l ∙ sym (p.past j (leb-true k j e) l)
      here j l (inr e) =
          let m : j < k = leb-false k j e in
          read_at k (stages_back k qs rs) h j m ∙ ap stage_of (back_at k qs rs long j m) ∙ p.again j m

      at : (j : ℕ) → j < stage_count → stage_at (stages_read k (stages_back k qs rs)) j ≡ stage_at qs j
      at j l = here j l (either (leb k j))

  -- .. and their kinds are kinds
  kinds-to : (i : ℕ) → i ≤ k → kinds_ok i (stages_back k qs rs) ≡ true
  unfolding kinds_ok
  kinds-to zero l = refl
  kinds-to (suc i) l =
      and-true (kinds_ok i (stages_back k qs rs)) (leb (kind_in (get_or (stages_back k qs rs) i no_record)) 3) (kinds-to i (omega arith))
      (ap (λ (r : ClusterRecord). leb (kind_in r) 3) (back_at k qs rs long i l) ∙ le-leb (kind_in (record_of (stage_at qs i))) 3 (kind-low (stage_at qs i).due (stage_at qs i).node))

  pub kinds-back : kinds_ok k (stages_back k qs rs) ≡ true
  kinds-back = kinds-to k (omega arith)

-- ---- a pass leaves what is read again
module _ (K : ℕ) where
  level-again : (a : ℕ) (w : Work) (q : Stage) (ws : List ℕ) → Again (level_stage K a w q ws)
  unfolding level_stage
  level-again a w q ws = again-loaded (begins K a w ws (filled K a q ws)).note w.node

  pass-again : (k a : ℕ) (w : Work) (i : ℕ) (rs : List Stage) (ws : List ℕ) → i + k ≤ length rs → (j : ℕ) → i ≤ j → j < i + k → Again (stage_at (pass K k a w i rs ws).records j)
  unfolding pass
  pass-again zero a w i rs ws l j b c = absurd (omega arith)
  pass-again (suc k) a w i rs ws l j b c =
      let q : Stage = stage_at rs i in
      let v : Stage = level_stage K a w q ws in
      let g : Work = handed K q.due q.node a ws in
      let rs₁ : List Stage = set rs i v in
      let ws₁ : List ℕ = level_words K a w q ws in
      let at : stage_at (pass K k (below a) g (suc i) rs₁ ws₁).records i ≡ v = pass-others K k (below a) g (suc i) rs₁ ws₁ i (inl (omega arith)) ∙ get_or-set_same rs i v no_stage (omega arith) in
      ⊎_elim
      (λ (e : i ≡ j). subst (λ (j : ℕ). Again (stage_at (pass K k (below a) g (suc i) rs₁ ws₁).records j)) e (subst Again (sym at) (level-again a w q ws)))
      (λ (m : i < j). pass-again k (below a) g (suc i) rs₁ ws₁ (omega (arith, l, length-set rs i v)) j m (omega arith))
      (eq-or-lt_of_le b)

  -- KEPT: every cycle, run or not
  run-plain : (levels : ℕ) (g : Ruling) (qs : List Stage) (ws : List ℕ) → pred levels ≤ stage_count → Plain (pred levels) qs → Plain (pred levels) (cycle_run K levels g qs ws).records
  unfolding cycle_run
  run-plain levels g qs ws h p = record {
    few = pass-records K (pred levels) 0 (work g.op 0) 0 qs ws ∙ p.few;
    again = λ j l. pass-again (pred levels) 0 (work g.op 0) 0 qs ws (omega (arith, h, p.few)) j (omega arith) (omega (arith, l));
    past = λ j b l. pass-others K (pred levels) 0 (work g.op 0) 0 qs ws j (inr (omega (arith, b))) ∙ p.past j b l;
  }

  pub cycled-plain : (levels : ℕ) (r : Request) (qs : List Stage) (ws : List ℕ) → pred levels ≤ stage_count → Plain (pred levels) qs → Plain (pred levels) (cycled K levels r qs ws).records
  cycled-plain levels r qs ws h p = cycled-either K levels r qs ws (λ o. Plain (pred levels) o.records) p p (λ e f. run-plain levels (rule_at K levels r ws) qs ws h p)
