-- What a queue with one store answers, told: the number, the words and `out` are those of the definitions; a refused call answers zeros wherever `out` is
-- long enough, and does not touch one that is too short.
use Rattle.laws.specs.Prelude.{Answer, Bool, List, ◌<◌, ◌∙◌, ◌≡◌, ◌≤◌, ap, cond, false, le-leb, leb, length, lt-leb, number_of, refl, true, ℕ}
use Rattle.card_words.proofs.Out.{told-zeros}
use Rattle.card_words.specs.Out.{answer_out, answer_words, bad_shape, refused_out}
use Rattle.card_words.specs.Store.{store_after, store_after_out, store_answered, store_done}
use Rattle.promise.specs.Prelude.{Outcome, outcome}

module _ (o : Outcome (List ℕ)) where
  pub store-done : (a : Answer) (n : ℕ) (ws : List ℕ) → n ≡ number_of a → outcome a ws ≡ o → store_after n ws ≡ store_done o
  store-done a n ws p e = ap (λ (n : ℕ). store_after n ws) p ∙ ap store_done e

  module _ (ws out : List ℕ) where
    pub store-short : length out < answer_words → store_after_out 1 ws out ≡ store_answered o ws out
    unfolding store_answered
    store-short h = rw (lt-leb answer_words (length out) h)

    pub store_told : (a : Answer) (n : ℕ) (left after : List ℕ) → answer_words ≤ length out → outcome a left ≡ o → (n ≡ number_of a) × (after ≡ answer_out a out) → store_after_out n left after ≡ store_answered o ws out
    unfolding store_answered
    store_told a n left after h e p =
        rw (le-leb answer_words (length out) h)
        ((λ i. record { number = p.0 i; store = left; out = p.1 i }) ∙ ap (λ (o : Outcome (List ℕ)). store_after_out (number_of o.answer) o.words (answer_out o.answer out)) e)

    pub store-zeros : ((store_answered o ws out).number ≡ 0 → ⊥) → (store_answered o ws out).out ≡ refused_out answer_words out
    unfolding store_answered
    store-zeros h = go (leb answer_words (length out)) refl h
      where
        go : (b : Bool) → leb answer_words (length out) ≡ b → ((cond b (store_after_out (number_of o.answer) o.words (answer_out o.answer out)) (store_after_out bad_shape ws out)).number ≡ 0 → ⊥)
            → (cond b (store_after_out (number_of o.answer) o.words (answer_out o.answer out)) (store_after_out bad_shape ws out)).out ≡ refused_out answer_words out
        go true e h = told-zeros o.answer out true e h
        go false e h = told-zeros o.answer out false e h
