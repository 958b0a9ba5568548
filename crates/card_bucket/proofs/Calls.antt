-- What a queue with bits and words answers, told: the number, the words and `out` are those of the definitions.
use Rattle.laws.specs.Prelude.{Answer, List, ◌<◌, ◌∙◌, ◌≡◌, ◌≤◌, ap, le-leb, length, lt-leb, number_of, ℕ}
use Rattle.bucket_model.specs.Prelude.{Outcome, outcome}
use Rattle.card_bucket.specs.Bucket.{bucket_after_out, bucket_answered, bucket_after, bucket_done}
use Rattle.card_words.specs.Out.{answer_out, answer_words}

module _ (o : Outcome) where
  pub bucket-done : (a : Answer) (n : ℕ) (b w : List ℕ) → n ≡ number_of a → outcome a b w ≡ o → bucket_after n b w ≡ bucket_done o
  bucket-done a n b w p e = ap (λ (n : ℕ). bucket_after n b w) p ∙ ap bucket_done e

  module _ (b w out : List ℕ) where
    pub bucket-short : length out < answer_words → bucket_after_out 1 b w out ≡ bucket_answered o b w out
    unfolding bucket_answered
    bucket-short h = rw (lt-leb answer_words (length out) h)

    pub bucket-told : (a : Answer) (n : ℕ) (b₁ w₁ after : List ℕ) → answer_words ≤ length out → outcome a b₁ w₁ ≡ o → (n ≡ number_of a) × (after ≡ answer_out a out) → bucket_after_out n b₁ w₁ after ≡ bucket_answered o b w out
    unfolding bucket_answered
    bucket-told a n b₁ w₁ after h e p =
        rw (le-leb answer_words (length out) h)
        ((λ i. record { number = p.0 i; bits = b₁; words = w₁; out = p.1 i }) ∙ ap (λ (o : Outcome). bucket_after_out (number_of o.answer) o.bits o.words (answer_out o.answer out)) e)
