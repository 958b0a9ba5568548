-- The calls of the bucket queue as C sees them: total functions of all numbers and words handed in, to the number returned and all words
-- afterwards.
use Rattle.laws.specs.Prelude.{List, cond, element, leb, length, number_of, ℕ}
use Rattle.bucket_model.specs.Prelude.{Outcome, cleared, held_count, popped, pushed, queue, replaced}
use Rattle.card_words.specs.Out.{answer_out, answer_words, bad_shape, CountAfter, count_answered}

-- ---- clear and push: the number, and both slices afterwards
pub record BucketAfter : Type 0 where
  pub number : ℕ
  pub bits : List ℕ
  pub words : List ℕ

abbrev pub bucket_after : ℕ → List ℕ → List ℕ → BucketAfter
bucket_after n b w = record { number = n; bits = b; words = w }

abbrev pub bucket_done : Outcome → BucketAfter
bucket_done o = bucket_after (number_of o.answer) o.bits o.words

-- ---- pop and replace: the number, both slices and `out` afterwards
pub record BucketAfterOut : Type 0 where
  pub number : ℕ
  pub bits : List ℕ
  pub words : List ℕ
  pub out : List ℕ

abbrev pub bucket_after_out : ℕ → List ℕ → List ℕ → List ℕ → BucketAfterOut
bucket_after_out n b w out = record { number = n; bits = b; words = w; out = out }

-- what a call on these words comes to, and the words where `out` is too short and nothing is done
unfoldable pub bucket_answered : Outcome → List ℕ → List ℕ → List ℕ → BucketAfterOut
bucket_answered o b w out = cond (leb answer_words (length out)) (bucket_after_out (number_of o.answer) o.bits o.words (answer_out o.answer out)) (bucket_after_out bad_shape b w out)

-- ---- the calls
module _ (b w : List ℕ) (storeys n : ℕ) where
  abbrev pub bucket_clear : BucketAfter
  bucket_clear = bucket_done (cleared (queue storeys n) b w)

  abbrev pub bucket_push : ℕ → ℕ → ℕ → BucketAfter
  bucket_push rank tag bytes = bucket_done (pushed (queue storeys n) b w (element rank tag bytes))

  abbrev pub bucket_pop : List ℕ → BucketAfterOut
  bucket_pop out = bucket_answered (popped (queue storeys n) b w) b w out

  abbrev pub bucket_replace : ℕ → ℕ → ℕ → List ℕ → BucketAfterOut
  bucket_replace rank tag bytes out = bucket_answered (replaced (queue storeys n) b w (element rank tag bytes)) b w out

  abbrev pub bucket_held : List ℕ → CountAfter
  bucket_held out = count_answered (held_count (queue storeys n) b w) out
