-- A refused call answers zeros wherever `out` is long enough, and does not touch one that is too short.
use Rattle.laws.specs.Prelude.{Bool, List, ◌≡◌, cond, false, leb, length, number_of, refl, true, ℕ}
use Rattle.bucket_model.specs.Prelude.{Outcome}
use Rattle.card_bucket.specs.Bucket.{bucket_pop, bucket_replace, bucket_after_out, bucket_answered}
use Rattle.card_words.proofs.Out.{told-zeros}
use Rattle.card_words.specs.Out.{answer_out, answer_words, bad_shape, refused_out}

pub bucket-zeros : (o : Outcome) (b w out : List ℕ) → ((bucket_answered o b w out).number ≡ 0 → ⊥) → (bucket_answered o b w out).out ≡ refused_out answer_words out
unfolding bucket_answered
bucket-zeros o b w out h = go (leb answer_words (length out)) refl h
  where
    go : (t : Bool) → leb answer_words (length out) ≡ t → ((cond t (bucket_after_out (number_of o.answer) o.bits o.words (answer_out o.answer out)) (bucket_after_out bad_shape b w out)).number ≡ 0 → ⊥)
        → (cond t (bucket_after_out (number_of o.answer) o.bits o.words (answer_out o.answer out)) (bucket_after_out bad_shape b w out)).out ≡ refused_out answer_words out
    go true e h = told-zeros o.answer out true e h
    go false e h = told-zeros o.answer out false e h

-- ---- ZEROS, call by call
module _ (b w : List ℕ) (storeys n : ℕ) where
  pub zeros-bucket-pop : (out : List ℕ) → ((bucket_pop b w storeys n out).number ≡ 0 → ⊥) → (bucket_pop b w storeys n out).out ≡ refused_out answer_words out
  zeros-bucket-pop out h = bucket-zeros _ b w out h

  pub zeros-bucket-replace : (rank tag bytes : ℕ) (out : List ℕ) → ((bucket_replace b w storeys n rank tag bytes out).number ≡ 0 → ⊥) → (bucket_replace b w storeys n rank tag bytes out).out ≡ refused_out answer_words out
  zeros-bucket-replace rank tag bytes out h = bucket-zeros _ b w out h
