-- What each call leaves, word by word, whatever the words were: the clock's word, the finishes' words, all else.
use Rattle.laws.specs.Prelude.{Answer, Element, List, Pop, Push, Refusal, Request, ◌+◌, ◌<◌, ◌∙◌, ◌≡◌, ◌≤◌, ap, arith, get_or-set_other, get_or-set_same, length, length-drop, length-set, refl, suc, sym, ℕ, Ok, None, Some, Err}
use Rattle.tree_model.specs.Prelude.{Outcome, called, outcome}
use Rattle.fair_model.specs.Calls.{blank_state, Desk, desk, handed_out, next_element, next_finish, passed_on, pops, pushes, resets, state_words}
use Rattle.fair_model.specs.Promise.{PopLeaves, PushLeaves, ResetLeaves}
use Rattle.fair_model.specs.Ranks.{flows}
use Rattle.fair_model.specs.Answers.{FairAnswer}
use Rattle.std.specs.Prelude.{Ok, None, Err, Some}
use Rattle.fair_model.specs.declared.FairRefusal.{FairRefusal}
use Rattle.fair_model.proofs.Outcomes.{blank-at, pop-either, pop-not-done, push-either, push-gives-none, refused-stands, reset-either}
use Rattle.fair_model.proofs.Slice.{blank-past}

-- ---- answers that are not alike
served-not : {x : FairRefusal} {e : Element} → ◌≡◌ {A = FairAnswer} (Err x) (Ok (Some e)) → ⊥
served-not q = let z : ◌≡◌ {A = ℕ} 0 1 = cc in omega arith

accepted-not : {x : FairRefusal} → ◌≡◌ {A = FairAnswer} (Err x) (Ok None) → ⊥
accepted-not q = let z : ◌≡◌ {A = ℕ} 0 1 = cc in omega arith

same-served : {x y : Element} → ◌≡◌ {A = FairAnswer} (Ok (Some x)) (Ok (Some y)) → x ≡ y
same-served q = cc

blank-kept : (st : List ℕ) → state_words ≤ length st → length (blank_state st) ≡ length st
blank-kept st h = simp length-drop (omega arith)

module _ (m levels : ℕ) (d : Desk) where
  -- refused by the queue, the desk stands
  desk-stands : (r : Request) (y : Refusal) (ws : List ℕ) → called m levels r d.store ≡ outcome (Err y) ws → desk d.state ws ≡ d
  desk-stands r y ws e =
      ap (λ (v : List ℕ). desk d.state v) (ap (λ (o : Outcome). o.words) (sym e) ∙ refused-stands m levels r d.store y (ap (λ (o : Outcome). o.answer) e))

  -- POP-WORDS
  handed-words : state_words ≤ length d.state → (a : Answer) (ws : List ℕ) → called m levels Pop d.store ≡ outcome a ws → PopLeaves m levels d (handed_out (outcome a ws) d.state)
  handed-words long (Ok None) ws e = absurd (pop-not-done m levels d.store (ap (λ (o : Outcome). o.answer) e))
  handed-words long (Ok (Some x)) ws e =
      record {
        length = length-set d.state 0 x.rank.0;
        clock = λ y q. get_or-set_same d.state 0 x.rank.0 0 (omega arith) ∙ ap (λ (z : Element). z.rank.0) (same-served q);
        others = λ p h. get_or-set_other d.state 0 p x.rank.0 0 (λ z. omega arith);
        queue = λ y q. e ∙ ap (λ (z : Element). outcome (Ok (Some z)) ws) (same-served q);
        stands = λ y q. absurd (served-not (sym q));
      }
  handed-words long (Err y) ws e =
      record { length = refl; clock = λ x q. absurd (served-not q); others = λ p h. refl; queue = λ x q. absurd (served-not q); stands = λ x q. desk-stands Pop y ws e }

  pub pop-words : PopLeaves m levels d (pops m levels d)
  pop-words =
      pop-either m levels d (PopLeaves m levels d)
      (λ x. record { length = refl; clock = λ e q. absurd (served-not q); others = λ p h. refl; queue = λ e q. absurd (served-not q); stands = λ y q. refl })
      (λ long. handed-words long (called m levels Pop d.store).answer (called m levels Pop d.store).words refl)

  -- RESET-WORDS
  pub reset-words : ResetLeaves d (resets m levels d)
  reset-words =
      reset-either m levels d (ResetLeaves d)
      (λ x. record { length = refl; zeros = λ q. absurd (accepted-not q); rest = λ p h. refl; store = refl; stands = λ y q. refl })
      (λ long e. record {
        length = blank-kept d.state long;
        zeros = λ q p h. blank-at d.state p h;
        rest = λ p h. blank-past d.state p h;
        store = refl;
        stands = λ y q. absurd (accepted-not (sym q));
      })

  -- PUSH-WORDS
  module _ (f w n t : ℕ) where
    abbrev x : Element
    x = next_element d f w n t

    passed_words : f < flows → state_words ≤ length d.state → (a : Answer) (ws : List ℕ) → called m levels (Push x) d.store ≡ outcome a ws
        → PushLeaves m levels f x d (passed_on (outcome a ws) f (next_finish d f w n) d.state)
    passed_words known long (Ok None) ws e =
        let at : suc f ≡ 1 + f = omega arith in
        record {
          length = length-set d.state (suc f) x.rank.0;
          finish = λ q. rw (← at) (get_or-set_same d.state (suc f) x.rank.0 0 (omega arith));
          others = λ p h. get_or-set_other d.state (suc f) p x.rank.0 0 (λ z. h (z ∙ at));
          queue = λ q. e;
          stands = λ y q. absurd (accepted-not (sym q));
        }
    passed_words known long (Ok (Some y)) ws e = absurd (push-gives-none m levels d.store x y (ap (λ (o : Outcome). o.answer) e))
    passed_words known long (Err y) ws e =
        record { length = refl; finish = λ q. absurd (accepted-not q); others = λ p h. refl; queue = λ q. absurd (accepted-not q); stands = λ z q. desk-stands (Push x) y ws e }

    pub push-words : PushLeaves m levels f x d (pushes m levels f w n t d)
    push-words =
        push-either m levels d f w n t (PushLeaves m levels f x d)
        (λ y. record { length = refl; finish = λ q. absurd (accepted-not q); others = λ p h. refl; queue = λ q. absurd (accepted-not q); stands = λ z q. refl })
        (λ good long fits. passed_words good.known long (called m levels (Push x) d.store).answer (called m levels (Push x) d.store).words refl)
