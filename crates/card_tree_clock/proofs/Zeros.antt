-- A refused call answers zeros wherever `out` is long enough, and does not touch one that is too short.
use Rattle.laws.specs.Prelude.{Bool, List, ◌&&◌, ◌∙◌, ◌≡◌, ap, cond, false, leb, length, refl, sym, true, ℕ}
use Rattle.card_tree_clock.specs.Clocked.{clocked_cycle, clocked_drain, cycle_of, drain_of, says_no}
use Rattle.card_words.proofs.Out.{told-zeros}
use Rattle.card_words.specs.Asked.{asked, marked, mark_in, request_of}
use Rattle.card_words.specs.Out.{drain_out, answer_words, bad_shape, drain_words, refused_out, zeros}
use Rattle.tree_records.proofs.Drained.{drain-bad}
use Rattle.tree_records.specs.Lent.{lent_cycled, LentDrain, lent_drains, LentOutcome}
use Rattle.tree_records.specs.declared.Record.{Record}

module _ (m levels : ℕ) (ws : List ℕ) (rs : List Record) (mark out : List ℕ) where
  pub zeros-clocked-cycle : (request rank tag bytes : ℕ) → ((clocked_cycle m levels ws rs mark request rank tag bytes out).number ≡ 0 → ⊥)
      → (clocked_cycle m levels ws rs mark request rank tag bytes out).out ≡ refused_out answer_words out
  unfolding clocked_cycle
  zeros-clocked-cycle request rank tag bytes h = go (leb answer_words (length out)) refl (asked mark request) h
    where
      o : LentOutcome
      o = lent_cycled m levels (mark_in mark) rs ws (request_of request rank tag bytes)

      go : (b : Bool) → leb answer_words (length out) ≡ b → (t : Bool) → ((cond (b && t) (cycle_of mark o out) (says_no m levels ws rs mark answer_words out)).number ≡ 0 → ⊥)
          → (cond (b && t) (cycle_of mark o out) (says_no m levels ws rs mark answer_words out)).out ≡ refused_out answer_words out
      go true e true h = told-zeros o.answer out true e h
      go true e false h = refl
      go false e t h = refl

  -- "at 1 it reports 0 and no work left"; at 2 it reports the cycles already run, work left
  pub zeros-clocked-drain : (budget : ℕ) → (clocked_drain m levels ws rs mark budget out).number ≡ bad_shape → (clocked_drain m levels ws rs mark budget out).out ≡ refused_out drain_words out
  unfolding clocked_drain refused_out
  zeros-clocked-drain budget h = go (leb drain_words (length out)) refl (marked mark) h
    where
      d : LentDrain
      d = lent_drains m levels (mark_in mark) rs ws budget

      go : (b : Bool) → leb drain_words (length out) ≡ b → (t : Bool) → (cond (b && t) (drain_of mark d out) (says_no m levels ws rs mark drain_words out)).number ≡ bad_shape
          → (cond (b && t) (drain_of mark d out) (says_no m levels ws rs mark drain_words out)).out ≡ cond (leb drain_words (length out)) (zeros drain_words out) out
      go true e true h =
          let z = drain-bad m levels (mark_in mark) rs ws budget h in
          (λ i. drain_out (z.0 i) (z.1 i) out) ∙ ap (λ (b : Bool). cond b (zeros drain_words out) out) (sym e)
      go true e false h = refl
      go false e t h = refl
