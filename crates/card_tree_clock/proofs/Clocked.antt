-- The clocked calls at the boundary: each test and what follows it make the outcome that the definitions say.
use Rattle.laws.specs.Prelude.{BadShape, Bool, List, Request, ◌&&◌, ◌<◌, ◌∙◌, ◌≡◌, ◌≤◌, ap, arith, cond, eq-eqb, eqb, false, le-leb, leb, length, lt-leb, ne_eqb, not, not-false, not-true, number_of, refl, set, sym, true, ℕ, Err}
use mathlib.Core.Bool.{and-false}
use Rattle.card_tree_clock.specs.Clocked.{clear_left, clear_of, clear_told, clocked_after, ClockedAfter, clocked_after_out, ClockedAfterOut, clocked_clear, clocked_cycle, clocked_drain, cycle_left, cycle_of, cycle_told, drain_left, drain_of, drain_told, none_left, none_ended, says_no, told, Told, told_out, ToldOut}
use Rattle.card_words.specs.Asked.{asked, marked, mark_in, mark_out, request_of}
use Rattle.card_words.specs.Out.{drain_out, answer_out, answer_words, drain_words, refused_out, zeros}
use Rattle.tree_clock_model.proofs.Laws.{drain-within}
use Rattle.tree_clock_model.specs.Prelude.{CycleOutcome, drain_outcome, drains, fresh, record_count}
use Rattle.tree_records.proofs.Back.{back_none, clear-lent, cycle-lent, drain-lent, works-few}
use Rattle.tree_records.proofs.Nodes.{clear-ready, cycle-ready, drain-ready, none-ready}
use Rattle.tree_records.specs.Lent.{lent_cleared, lent_cycled, LentDrain, lent_drains, LentOutcome, works_back}
use Rattle.tree_records.specs.Steps.{clear_from, cycle_from, drain_from, lends, reach, Ready, read_of, state_of, ended, ended_cycle, ended_drain}
use Rattle.tree_records.specs.declared.Read.{Read}
use Rattle.tree_records.specs.declared.Record.{Record}
use Rattle.tree_records.specs.declared.Ended.{Ended}

-- ---- what the calls leave
-- a clear
module _ (m levels len : ℕ) (ws mark : List ℕ) where
  pub clear-unmarked : length mark < 1 → (t : Ended) → t ≡ none_ended fresh.records → told t ws mark ≡ clear_told m levels len ws mark
  unfolding clear_told
  clear-unmarked h t e = rw (lt-leb 1 (length mark) h) (ap (λ (t : Ended). told t ws mark) e)

  module _ (h : 1 ≤ length mark) (t : Ended) (after : List ℕ) (p : (after ≡ (clear_from m levels len (mark_in mark) ws).words) × (t ≡ ended_cycle levels (clear_from m levels len (mark_in mark) ws))) (n : ℕ) (is : n ≡ number_of t.answer) where
    o : CycleOutcome
    o = clear_from m levels len (mark_in mark) ws

    number_is : n ≡ number_of (clear_from m levels len (mark_in mark) ws).answer
    number_is = is ∙ ap (λ (t : Ended). number_of t.answer) p.1

    clear_told_lem : (mark₁ : List ℕ) → mark₁ ≡ cond (eqb n 0) (mark_out false mark) mark → told t after mark₁ ≡ clear_told m levels len ws mark
    unfolding clear_told
    clear_told_lem mark₁ e =
        rw (le-leb 1 (length mark) h)
        (λ i. told (p.1 i) (p.0 i) ((e ∙ ap (λ (n : ℕ). cond (eqb n 0) (mark_out false mark) mark) number_is) i))

    pub clear-done : n ≡ 0 → told t after (set mark 0 0) ≡ clear_told m levels len ws mark
    clear-done z = clear_told_lem (set mark 0 0) (rw (eq-eqb n 0 z))

    pub clear-refused : (n ≡ 0 → ⊥) → told t after mark ≡ clear_told m levels len ws mark
    clear-refused z = clear_told_lem mark (rw (ne_eqb n 0 z))

-- no more cycles than the budget
pub drain-few : (m levels len : ℕ) (mark : Bool) (ws : List ℕ) (d : Read) (budget : ℕ) (t : Ended) → t ≡ ended_drain levels (drain_from m levels len mark ws d budget) → t.cycles ≤ budget
unfolding drain_from
drain-few m levels len mark ws d budget t p = omega (arith, ap (λ (t : Ended). t.cycles) p, go (lends levels len && d.ok))
  where
    go : (b : Bool) → (cond b (drains m levels budget (state_of d mark) ws) (drain_outcome (Err BadShape) 0 false ws (state_of d mark))).cycles ≤ budget
    go true = drain-within m levels budget (state_of d mark) ws
    go false = omega arith

-- a cycle and a drain
module _ (m levels len : ℕ) (ws mark : List ℕ) (d : Read) (out : List ℕ) where
  no_short : (n : ℕ) → length out < n → (t : Ended) → t ≡ none_ended d.works → told_out t ws mark out ≡ none_left m levels len ws mark d n out
  unfolding refused_out
  no_short n h t e = rw (lt-leb n (length out) h) (ap (λ (t : Ended). told_out t ws mark out) e)

  no-zeros : (n : ℕ) → n ≤ length out → (t : Ended) → t ≡ none_ended d.works → (out₁ : List ℕ) → out₁ ≡ zeros n out → told_out t ws mark out₁ ≡ none_left m levels len ws mark d n out
  unfolding refused_out
  no-zeros n h t e out₁ z = rw (le-leb n (length out) h) (λ i. told_out (e i) ws mark (z i))

  module _ (request rank tag bytes : ℕ) where
    pub cycle-short : length out < answer_words → (t : Ended) → t ≡ none_ended d.works → told_out t ws mark out ≡ cycle_told m levels len ws mark d request rank tag bytes out
    unfolding cycle_told
    cycle-short h t e = rw (lt-leb answer_words (length out) h) (no_short answer_words h t e)

    pub cycle-refused : (b : Bool) → b ≡ asked mark request → not b ≡ true → (out₁ : List ℕ) → out₁ ≡ refused_out answer_words out → (t : Ended) → t ≡ none_ended d.works
        → told_out t ws mark out₁ ≡ cycle_told m levels len ws mark d request rank tag bytes out
    unfolding cycle_told
    cycle-refused b tested e out₁ z t n = rw (sym tested ∙ not-true b e, and-false (leb answer_words (length out))) (λ i. told_out (n i) ws mark (z i))

    module _ (room : answer_words ≤ length out) (b : Bool) (tested : b ≡ asked mark request) where
      pub cycle-done : not b ≡ false → (q : Request) → q ≡ request_of request rank tag bytes → (t : Ended) (after : List ℕ)
          → (after ≡ (cycle_from m levels len (mark_in mark) ws d q).words) × (t ≡ ended_cycle levels (cycle_from m levels len (mark_in mark) ws d q))
          → (n : ℕ) → n ≡ cond t.state.mark 1 0 → (out₁ : List ℕ) → out₁ ≡ answer_out t.answer out → told_out t after (set mark 0 n) out₁ ≡ cycle_told m levels len ws mark d request rank tag bytes out
      unfolding cycle_told
      cycle-done e q f t after p n w out₁ z =
          rw (le-leb answer_words (length out) room, sym tested ∙ not-false b e, ← f)
          (λ i. told_out (p.1 i) (p.0 i) ((ap (set mark 0) w ∙ ap (λ (t : Ended). mark_out t.state.mark mark) p.1) i) ((z ∙ ap (λ (t : Ended). answer_out t.answer out) p.1) i))

  module _ (budget : ℕ) where
    pub drain-short : length out < drain_words → (t : Ended) → t ≡ none_ended d.works → told_out t ws mark out ≡ drain_told m levels len ws mark d budget out
    unfolding drain_told
    drain-short h t e = rw (lt-leb drain_words (length out) h) (no_short drain_words h t e)

    module _ (room : drain_words ≤ length out) (b : Bool) (tested : b ≡ marked mark) where
      pub drain-refused : not b ≡ true → (out₁ : List ℕ) → out₁ ≡ drain_out 0 false out → (t : Ended) → t ≡ none_ended d.works → told_out t ws mark out₁ ≡ drain_told m levels len ws mark d budget out
      unfolding drain_told
      drain-refused e out₁ z t n = rw (le-leb drain_words (length out) room, sym tested ∙ not-true b e) (no-zeros drain_words room t n out₁ z)

      module _ (t : Ended) (after : List ℕ) (p : (after ≡ (drain_from m levels len (mark_in mark) ws d budget).words) × (t ≡ ended_drain levels (drain_from m levels len (mark_in mark) ws d budget))) where
        pub drain-done : not b ≡ false → (n : ℕ) → n ≡ cond t.state.mark 1 0 → (out₁ : List ℕ) → out₁ ≡ drain_out t.cycles t.left out → told_out t after (set mark 0 n) out₁ ≡ drain_told m levels len ws mark d budget out
        unfolding drain_told
        drain-done e n w out₁ z =
            rw (le-leb drain_words (length out) room, sym tested ∙ not-false b e)
            (λ i. told_out (p.1 i) (p.0 i) ((ap (set mark 0) w ∙ ap (λ (t : Ended). mark_out t.state.mark mark) p.1) i) ((z ∙ ap (λ (t : Ended). drain_out t.cycles t.left out) p.1) i))

-- ---- the calls: what is left of the records is written back
abbrev pub cycle_back : List Record → ToldOut → ClockedAfterOut
cycle_back rs u = clocked_after_out (number_of u.ended.answer) u.store (works_back u.ended.count u.ended.state.records rs) u.mark u.out

module _ (m levels : ℕ) (ws : List ℕ) (rs : List Record) (mark : List ℕ) where
  abbrev read : Read
  read = read_of (reach levels (length rs)) rs

  full : length read.works ≡ record_count
  full = works-few (reach levels (length rs)) rs

  none-back : (n : ℕ) (out : List ℕ) → cycle_back rs (none_left m levels (length rs) ws mark read n out) ≡ says_no m levels ws rs mark n out
  none-back n out = ap (λ (rs : List Record). clocked_after_out 1 ws rs mark (refused_out n out)) (back_none read.works rs)

  module _ (request rank tag bytes : ℕ) (out : List ℕ) where
    abbrev q : Request
    q = request_of request rank tag bytes

    pub cycle-ends : cycle_back rs (cycle_told m levels (length rs) ws mark read request rank tag bytes out) ≡ clocked_cycle m levels ws rs mark request rank tag bytes out
    unfolding cycle_told clocked_cycle
    cycle-ends = go (leb answer_words (length out) && asked mark request)
      where
        go : (b : Bool) → cycle_back rs (cond b (cycle_left m levels (length rs) ws mark out (cycle_from m levels (length rs) (mark_in mark) ws read q)) (none_left m levels (length rs) ws mark read answer_words out))
            ≡ cond b (cycle_of mark (lent_cycled m levels (mark_in mark) rs ws q) out) (says_no m levels ws rs mark answer_words out)
        go true = ap (λ (o : LentOutcome). cycle_of mark o out) (cycle-lent m levels (mark_in mark) ws rs q)
        go false = none-back answer_words out

    pub cycle-goes : Ready (cycle_told m levels (length rs) ws mark read request rank tag bytes out).ended (length rs)
    unfolding cycle_told
    cycle-goes = go (leb answer_words (length out) && asked mark request)
      where
        go : (b : Bool) → Ready (cond b (cycle_left m levels (length rs) ws mark out (cycle_from m levels (length rs) (mark_in mark) ws read q)) (none_left m levels (length rs) ws mark read answer_words out)).ended (length rs)
        go true = cycle-ready m levels (length rs) (mark_in mark) ws read full q
        go false = none-ready m levels (length rs) (mark_in mark) ws (none_ended read.works) refl

  module _ (budget : ℕ) (out : List ℕ) where
    pub drain-ends : cycle_back rs (drain_told m levels (length rs) ws mark read budget out) ≡ clocked_drain m levels ws rs mark budget out
    unfolding drain_told clocked_drain
    drain-ends = go (leb drain_words (length out) && marked mark)
      where
        go : (b : Bool) → cycle_back rs (cond b (drain_left m levels (length rs) ws mark out (drain_from m levels (length rs) (mark_in mark) ws read budget)) (none_left m levels (length rs) ws mark read drain_words out))
            ≡ cond b (drain_of mark (lent_drains m levels (mark_in mark) rs ws budget) out) (says_no m levels ws rs mark drain_words out)
        go true = ap (λ (o : LentDrain). drain_of mark o out) (drain-lent m levels (mark_in mark) ws rs budget)
        go false = none-back drain_words out

    pub drain-goes : Ready (drain_told m levels (length rs) ws mark read budget out).ended (length rs)
    unfolding drain_told
    drain-goes = go (leb drain_words (length out) && marked mark)
      where
        go : (b : Bool) → Ready (cond b (drain_left m levels (length rs) ws mark out (drain_from m levels (length rs) (mark_in mark) ws read budget)) (none_left m levels (length rs) ws mark read drain_words out)).ended (length rs)
        go true = drain-ready m levels (length rs) (mark_in mark) ws read full budget
        go false = none-ready m levels (length rs) (mark_in mark) ws (none_ended read.works) refl

  abbrev pub clear_back : Told → ClockedAfter
  clear_back u = clocked_after (number_of u.ended.answer) u.store (works_back u.ended.count u.ended.state.records rs) u.mark

  pub clear-ends : clear_back (clear_told m levels (length rs) ws mark) ≡ clocked_clear m levels ws rs mark
  unfolding clear_told clocked_clear
  clear-ends = go (leb 1 (length mark))
    where
      go : (b : Bool) → clear_back (cond b (clear_left m levels (length rs) ws mark (clear_from m levels (length rs) (mark_in mark) ws)) (told (none_ended fresh.records) ws mark))
          ≡ cond b (clear_of mark (lent_cleared m levels (mark_in mark) rs ws)) (clocked_after 1 ws rs mark)
      go true = ap (λ (o : LentOutcome). clear_of mark o) (clear-lent m levels (mark_in mark) ws rs)
      go false = ap (λ (rs : List Record). clocked_after 1 ws rs mark) (back_none fresh.records rs)

  pub clear-goes : Ready (clear_told m levels (length rs) ws mark).ended (length rs)
  unfolding clear_told
  clear-goes = go (leb 1 (length mark))
    where
      go : (b : Bool) → Ready (cond b (clear_left m levels (length rs) ws mark (clear_from m levels (length rs) (mark_in mark) ws)) (told (none_ended fresh.records) ws mark)).ended (length rs)
      go true = clear-ready m levels (length rs) (mark_in mark) ws
      go false = none-ready m levels (length rs) (mark_in mark) ws (none_ended fresh.records) refl
