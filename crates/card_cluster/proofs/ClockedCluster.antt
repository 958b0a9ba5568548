-- The clocked cluster heap's calls at the boundary: each test and what follows it make the outcome that the definitions say.
use Rattle.laws.specs.Prelude.{BadShape, Bool, List, Request, ◌&&◌, ◌<◌, ◌∙◌, ◌≡◌, ◌≤◌, ap, arith, cond, false, le-leb, leb, length, lt-leb, number_of, refl, subst, sym, true, ℕ, Err}
use mathlib.Core.Bool.{and-false}
use Rattle.card_words.specs.Out.{drain_out, answer_out, answer_words, drain_words, refused_out}
use Rattle.card_words.specs.Asked.{request_of}
use Rattle.card_cluster.specs.ClockedCluster.{clear_of, clear_told, cycle_left, cycle_of, cycle_told, drain_left, drain_of, drain_told, none_left, none_ended, says_no, clocked_cluster_after, ClockedClusterAfter, clocked_cluster_after_out, ClockedClusterAfterOut, clocked_cluster_clear, clocked_cluster_cycle, clocked_cluster_drain, told, Told, told_out, ToldOut}
use Rattle.cluster_clock_model.proofs.Laws.{drain-within}
use Rattle.cluster_clock_model.specs.Prelude.{drain_outcome, drains, stage_count}
use Rattle.cluster_records.proofs.Back.{back_none, clear-lent, cycle-lent, drain-lent, stages-few}
use Rattle.cluster_records.proofs.Fits.{clear-ready, cycle-ready, drain-ready, none-ready}
use Rattle.cluster_records.specs.Lent.{ClusterRecord, LentDrain, lent_drains, LentOutcome, lent_cycled, stages_back}
use Rattle.cluster_records.specs.Steps.{clear_from, cycle_from, drains_from, lends, reach, read_of, Ready, ended_cycle, ended_drain}
use Rattle.cluster_records.specs.declared.ClusterRead.{ClusterRead}
use Rattle.cluster_records.specs.declared.ClusterEnded.{ClusterEnded}

-- ---- what the calls leave
-- a clear
pub clear_told_lem : (K levels len : ℕ) (ws : List ℕ) (t : ClusterEnded) (after : List ℕ) → (after ≡ (clear_from K levels len ws).words) × (t ≡ ended_cycle levels (clear_from K levels len ws)) → told t after ≡ clear_told K levels len ws
clear_told_lem K levels len ws t after p = λ i. told (p.1 i) (p.0 i)

-- no more cycles than the budget
pub drain-few : (K levels len : ℕ) (ws : List ℕ) (d : ClusterRead) (budget : ℕ) (t : ClusterEnded) → t ≡ ended_drain levels (drains_from K levels len ws d budget) → t.cycles ≤ budget
unfolding drains_from
drain-few K levels len ws d budget t p = omega (arith, ap (λ (t : ClusterEnded). t.cycles) p, go (lends levels len && d.ok))
  where
    go : (b : Bool) → (cond b (drains K levels budget d.stages ws) (drain_outcome (Err BadShape) 0 false ws d.stages)).cycles ≤ budget
    go true = drain-within K levels budget d.stages ws
    go false = omega arith

-- a cycle and a drain
module _ (K levels len : ℕ) (ws : List ℕ) (d : ClusterRead) (out : List ℕ) where
  no_short : (n : ℕ) → length out < n → (t : ClusterEnded) → t ≡ none_ended d.stages → told_out t ws out ≡ none_left K levels len ws d n out
  unfolding refused_out
  no_short n h t e = rw (lt-leb n (length out) h) (ap (λ (t : ClusterEnded). told_out t ws out) e)

  module _ (request rank tag bytes : ℕ) where
    pub cycle-short : length out < answer_words → (t : ClusterEnded) → t ≡ none_ended d.stages → told_out t ws out ≡ cycle_told K levels len ws d request rank tag bytes out
    unfolding cycle_told
    cycle-short h t e = rw (lt-leb answer_words (length out) h) (no_short answer_words h t e)

    pub cycle-refused : 3 < request → (out₁ : List ℕ) → out₁ ≡ refused_out answer_words out → (t : ClusterEnded) → t ≡ none_ended d.stages → told_out t ws out₁ ≡ cycle_told K levels len ws d request rank tag bytes out
    unfolding cycle_told
    cycle-refused h out₁ z t n = rw (lt-leb request 3 h, and-false (leb answer_words (length out))) (λ i. told_out (n i) ws (z i))

    pub cycle-done : answer_words ≤ length out → request ≤ 3 → (q : Request) → q ≡ request_of request rank tag bytes → (t : ClusterEnded) (after : List ℕ)
        → (after ≡ (cycle_from K levels len ws d q).words) × (t ≡ ended_cycle levels (cycle_from K levels len ws d q))
        → (out₁ : List ℕ) → out₁ ≡ answer_out t.answer out → told_out t after out₁ ≡ cycle_told K levels len ws d request rank tag bytes out
    unfolding cycle_told
    cycle-done room h q f t after p out₁ z =
        rw (le-leb answer_words (length out) room, le-leb request 3 h, ← f)
        (λ i. told_out (p.1 i) (p.0 i) ((z ∙ ap (λ (t : ClusterEnded). answer_out t.answer out) p.1) i))

  module _ (budget : ℕ) where
    pub drain-short : length out < drain_words → (t : ClusterEnded) → t ≡ none_ended d.stages → told_out t ws out ≡ drain_told K levels len ws d budget out
    unfolding drain_told
    drain-short h t e = rw (lt-leb drain_words (length out) h) (no_short drain_words h t e)

    pub drain-done : drain_words ≤ length out → (t : ClusterEnded) (after : List ℕ) → (after ≡ (drains_from K levels len ws d budget).words) × (t ≡ ended_drain levels (drains_from K levels len ws d budget))
        → (out₁ : List ℕ) → out₁ ≡ drain_out t.cycles t.left out → told_out t after out₁ ≡ drain_told K levels len ws d budget out
    unfolding drain_told
    drain-done room t after p out₁ z =
        rw (le-leb drain_words (length out) room)
        (λ i. told_out (p.1 i) (p.0 i) ((z ∙ ap (λ (t : ClusterEnded). drain_out t.cycles t.left out) p.1) i))

-- ---- the calls: what is left of the records is written back
abbrev pub cycle_back : List ClusterRecord → ToldOut → ClockedClusterAfterOut
cycle_back rs u = clocked_cluster_after_out (number_of u.ended.answer) u.store (stages_back u.ended.count u.ended.stages rs) u.out

module _ (K levels : ℕ) (ws : List ℕ) (rs : List ClusterRecord) where
  abbrev read : ClusterRead
  read = read_of (reach levels (length rs)) rs

  full : length read.stages ≡ stage_count
  full = stages-few (reach levels (length rs)) rs

  none-back : (n : ℕ) (out : List ℕ) → cycle_back rs (none_left K levels (length rs) ws read n out) ≡ says_no K levels ws rs n out
  none-back n out = ap (λ (rs : List ClusterRecord). clocked_cluster_after_out 1 ws rs (refused_out n out)) (sym (back_none read.stages rs))

  module _ (request rank tag bytes : ℕ) (out : List ℕ) where
    abbrev q : Request
    q = request_of request rank tag bytes

    pub cycle-ends : cycle_back rs (cycle_told K levels (length rs) ws read request rank tag bytes out) ≡ clocked_cluster_cycle K levels ws rs request rank tag bytes out
    unfolding cycle_told clocked_cluster_cycle
    cycle-ends = go (leb answer_words (length out) && leb request 3)
      where
        go : (b : Bool) → cycle_back rs (cond b (cycle_left K levels (length rs) ws out (cycle_from K levels (length rs) ws read q)) (none_left K levels (length rs) ws read answer_words out))
            ≡ cond b (cycle_of (lent_cycled K levels rs ws q) out) (says_no K levels ws rs answer_words out)
        go true = ap (λ (o : LentOutcome). cycle_of o out) (cycle-lent K levels ws rs q)
        go false = none-back answer_words out

    pub cycle-goes : Ready (cycle_told K levels (length rs) ws read request rank tag bytes out).ended (length rs)
    unfolding cycle_told
    cycle-goes = go (leb answer_words (length out) && leb request 3)
      where
        go : (b : Bool) → Ready (cond b (cycle_left K levels (length rs) ws out (cycle_from K levels (length rs) ws read q)) (none_left K levels (length rs) ws read answer_words out)).ended (length rs)
        go true = cycle-ready K levels (length rs) ws read full q
        go false = none-ready K levels (length rs) ws (none_ended read.stages) refl

  module _ (budget : ℕ) (out : List ℕ) where
    pub drain-ends : cycle_back rs (drain_told K levels (length rs) ws read budget out) ≡ clocked_cluster_drain K levels ws rs budget out
    unfolding drain_told clocked_cluster_drain
    drain-ends = go (leb drain_words (length out))
      where
        go : (b : Bool) → cycle_back rs (cond b (drain_left K levels (length rs) ws out (drains_from K levels (length rs) ws read budget)) (none_left K levels (length rs) ws read drain_words out))
            ≡ cond b (drain_of (lent_drains K levels rs ws budget) out) (says_no K levels ws rs drain_words out)
        go true = ap (λ (o : LentDrain). drain_of o out) (drain-lent K levels ws rs budget)
        go false = none-back drain_words out

    pub drain-goes : Ready (drain_told K levels (length rs) ws read budget out).ended (length rs)
    unfolding drain_told
    drain-goes = go (leb drain_words (length out))
      where
        go : (b : Bool) → Ready (cond b (drain_left K levels (length rs) ws out (drains_from K levels (length rs) ws read budget)) (none_left K levels (length rs) ws read drain_words out)).ended (length rs)
        go true = drain-ready K levels (length rs) ws read full budget
        go false = none-ready K levels (length rs) ws (none_ended read.stages) refl

  abbrev pub clear_back : Told → ClockedClusterAfter
  clear_back u = clocked_cluster_after (number_of u.ended.answer) u.store (stages_back u.ended.count u.ended.stages rs)

  pub clear-ends : clear_back (clear_told K levels (length rs) ws) ≡ clocked_cluster_clear K levels ws rs
  clear-ends = ap clear_of (clear-lent K levels ws rs)

  pub clear-goes : Ready (clear_told K levels (length rs) ws).ended (length rs)
  clear-goes = clear-ready K levels (length rs) ws

  -- what a call on the records read leaves for them is ready to be written, and with that written the call is done
  module _ (t : ClusterEnded) (v : List ℕ) (after : List ClusterRecord) (n : ℕ) (p : (after ≡ stages_back t.count t.stages rs) × (n ≡ number_of t.answer)) where
    pub clear_whole : told t v ≡ clear_told K levels (length rs) ws → clocked_cluster_after n v after ≡ clocked_cluster_clear K levels ws rs
    clear_whole e = (λ i. clocked_cluster_after (p.1 i) v (p.0 i)) ∙ ap clear_back e ∙ clear-ends

    module _ (d : ClusterRead) (from : d ≡ read) (out o : List ℕ) where
      written : (u : ToldOut) → told_out t v o ≡ u → clocked_cluster_after_out n v after o ≡ cycle_back rs u
      written u e = (λ i. clocked_cluster_after_out (p.1 i) v (p.0 i) o) ∙ ap (cycle_back rs) e

      pub cycle-whole : (request rank tag bytes : ℕ) → told_out t v o ≡ cycle_told K levels (length rs) ws d request rank tag bytes out → clocked_cluster_after_out n v after o ≡ clocked_cluster_cycle K levels ws rs request rank tag bytes out
      cycle-whole request rank tag bytes e =
          written (cycle_told K levels (length rs) ws read request rank tag bytes out) (e ∙ ap (λ (d : ClusterRead). cycle_told K levels (length rs) ws d request rank tag bytes out) from)
          ∙ cycle-ends request rank tag bytes out

      pub drain-whole : (budget : ℕ) → told_out t v o ≡ drain_told K levels (length rs) ws d budget out → clocked_cluster_after_out n v after o ≡ clocked_cluster_drain K levels ws rs budget out
      drain-whole budget e =
          written (drain_told K levels (length rs) ws read budget out) (e ∙ ap (λ (d : ClusterRead). drain_told K levels (length rs) ws d budget out) from) ∙ drain-ends budget out

  module _ (t : ClusterEnded) (v : List ℕ) where
    pub clear-ready-now : told t v ≡ clear_told K levels (length rs) ws → Ready t (length rs)
    clear-ready-now e = subst (λ (t : ClusterEnded). Ready t (length rs)) (sym (ap (λ (u : Told). u.ended) e)) clear-goes

    module _ (d : ClusterRead) (from : d ≡ read) (out o : List ℕ) where
      pub cycle-ready-now : (request rank tag bytes : ℕ) → told_out t v o ≡ cycle_told K levels (length rs) ws d request rank tag bytes out → Ready t (length rs)
      cycle-ready-now request rank tag bytes e =
          subst (λ (t : ClusterEnded). Ready t (length rs)) (sym (ap (λ (u : ToldOut). u.ended) (e ∙ ap (λ (d : ClusterRead). cycle_told K levels (length rs) ws d request rank tag bytes out) from)))
          (cycle-goes request rank tag bytes out)

      pub drain-ready-now : (budget : ℕ) → told_out t v o ≡ drain_told K levels (length rs) ws d budget out → Ready t (length rs)
      drain-ready-now budget e =
          subst (λ (t : ClusterEnded). Ready t (length rs)) (sym (ap (λ (u : ToldOut). u.ended) (e ∙ ap (λ (d : ClusterRead). drain_told K levels (length rs) ws d budget out) from)))
          (drain-goes budget out)
