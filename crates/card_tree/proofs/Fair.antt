-- What fair ranks answer, told; a refusal's zeros; and that each contract allows one outcome.
use Rattle.laws.specs.Prelude.{Bool, List, ◌<◌, ◌∙◌, ◌≡◌, ◌≤◌, ap, blank, cond, false, le-leb, leb, length, lt-leb, refl, sym, true, ℕ}
use Rattle.card_words.proofs.Out.{zeros-held}
use Rattle.card_tree.specs.Fair.{fair_after, FairAfter, fair_after_out, FairAfterOut, fair_answered, fair_done, fair_held, fair_out, fair_pop, fair_push, fair_reset}
use Rattle.card_words.specs.Out.{answer_words, bad_shape, count_after, CountAfter, refused_out, zeros}
use Rattle.fair_model.specs.Calls.{answer_number, desk, pops, Reply, reply}
use Rattle.fair_model.specs.Answers.{FairAnswer}
use Rattle.std.specs.Prelude.{Ok, None, Err, Some}
use Rattle.tree_model.specs.Prelude.{held_count}

-- ---- told
module _ (o : Reply) where
  pub fair-done : (a : FairAnswer) (n : ℕ) (st ws : List ℕ) → n ≡ answer_number a → reply a (desk st ws) ≡ o → fair_after n st ws ≡ fair_done o
  fair-done a n st ws p e = ap (λ (n : ℕ). fair_after n st ws) p ∙ ap fair_done e

  module _ (st ws out : List ℕ) where
    pub fair-short : length out < answer_words → fair_after_out 1 st ws out ≡ fair_answered o st ws out
    unfolding fair_answered
    fair-short h = rw (lt-leb answer_words (length out) h)

    pub fair-told : (a : FairAnswer) (n : ℕ) (st₁ ws₁ after : List ℕ) → answer_words ≤ length out → reply a (desk st₁ ws₁) ≡ o → (n ≡ answer_number a) × (after ≡ fair_out a out)
        → fair_after_out n st₁ ws₁ after ≡ fair_answered o st ws out
    unfolding fair_answered
    fair-told a n st₁ ws₁ after h e p =
        rw (le-leb answer_words (length out) h)
        ((λ i. record { number = p.0 i; state = st₁; store = ws₁; out = p.1 i })
        ∙ ap (λ (o : Reply). fair_after_out (answer_number o.said) o.next.state o.next.store (fair_out o.said out)) e)

-- ---- ZEROS: a refused call answers zeros wherever `out` is long enough, and does not touch one that is too short
served-zeros : (a : FairAnswer) (out : List ℕ) → (answer_number a ≡ 0 → ⊥) → fair_out a out ≡ zeros answer_words out
unfolding blank
served-zeros (Ok None) out h = absurd (h refl)
served-zeros (Ok (Some e)) out h = absurd (h refl)
served-zeros (Err r) out h = refl

-- two outcomes of one statement
one : {n k : ℕ} {a b v w : List ℕ} → fair_after n a v ≡ fair_after k b w → (n ≡ k) × (a ≡ b) × (v ≡ w)
one e = (ap (λ (o : FairAfter). o.number) e, ap (λ (o : FairAfter). o.state) e, ap (λ (o : FairAfter). o.store) e)

module _ (m levels : ℕ) (st ws : List ℕ) where
  pub zeros-fair-pop : (out : List ℕ) → ((fair_pop m levels st ws out).number ≡ 0 → ⊥) → (fair_pop m levels st ws out).out ≡ refused_out answer_words out
  unfolding fair_answered refused_out
  zeros-fair-pop out h = go (pops m levels (desk st ws)) (leb answer_words (length out)) h
    where
      go : (o : Reply) (b : Bool)
          → ((cond b (fair_after_out (answer_number o.said) o.next.state o.next.store (fair_out o.said out)) (fair_after_out bad_shape st ws out)).number ≡ 0 → ⊥)
          → (cond b (fair_after_out (answer_number o.said) o.next.state o.next.store (fair_out o.said out)) (fair_after_out bad_shape st ws out)).out ≡ cond b (zeros answer_words out) out
      go o true h = served-zeros o.said out h
      go o false h = refl

  pub zeros-fair-held : (out : List ℕ) → ((fair_held m levels ws out).number ≡ 0 → ⊥) → (fair_held m levels ws out).out ≡ refused_out 1 out
  zeros-fair-held out h = zeros-held (held_count m levels ws) out h

  -- ---- PINNED; n and k are two numbers returned, a and b two states, v and w two stores, x and y two `out`s
  module _ (n k : ℕ) (a b v w : List ℕ) where
    pub pinned-fair-reset : fair_after n a v ≡ fair_reset m levels st ws → fair_after k b w ≡ fair_reset m levels st ws → (n ≡ k) × (a ≡ b) × (v ≡ w)
    pinned-fair-reset p q = one (p ∙ sym q)

    pub pinned-fair-push : (flow weight tag bytes : ℕ) → fair_after n a v ≡ fair_push m levels st ws flow weight tag bytes → fair_after k b w ≡ fair_push m levels st ws flow weight tag bytes
        → (n ≡ k) × (a ≡ b) × (v ≡ w)
    pinned-fair-push flow weight tag bytes p q = one (p ∙ sym q)

    pub pinned-fair-pop : (out x y : List ℕ) → fair_after_out n a v x ≡ fair_pop m levels st ws out → fair_after_out k b w y ≡ fair_pop m levels st ws out
        → (n ≡ k) × (a ≡ b) × (v ≡ w) × (x ≡ y)
    pinned-fair-pop out x y p q =
        let e = p ∙ sym q in
        (ap (λ (o : FairAfterOut). o.number) e, ap (λ (o : FairAfterOut). o.state) e, ap (λ (o : FairAfterOut). o.store) e, ap (λ (o : FairAfterOut). o.out) e)

  pub pinned-fair-held : (out : List ℕ) (n k : ℕ) (x y : List ℕ) → count_after n x ≡ fair_held m levels ws out → count_after k y ≡ fair_held m levels ws out → (n ≡ k) × (x ≡ y)
  pinned-fair-held out n k x y p q = (ap (λ (o : CountAfter). o.number) (p ∙ sym q), ap (λ (o : CountAfter). o.out) (p ∙ sym q))
