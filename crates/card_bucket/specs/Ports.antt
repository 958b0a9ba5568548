-- The calls of several ports on one pool as C sees them: total functions of all numbers and words handed in, to the number returned and all words
-- afterwards.
use Rattle.laws.specs.Prelude.{List, cond, element, ℕ}
use Rattle.card_bucket.specs.Bucket.{BucketAfter, BucketAfterOut, bucket_answered, bucket_done}
use Rattle.card_words.specs.Out.{CountAfter, count_answered}
use Rattle.ports_model.specs.Prelude.{bit_words, cleared, held_count, popped, pushed, replaced, shape_ok, store_words}
use Rattle.ports_model.specs.declared.Shape.{Shape}

abbrev pub shape : ℕ → ℕ → ℕ → Shape
shape storeys n ports = record { storeys = storeys; nodes = n; ports = ports }

-- ---- the calls
module _ (b w : List ℕ) (storeys n ports : ℕ) where
  abbrev pub ports_clear : List ℕ → BucketAfter
  ports_clear limits = bucket_done (cleared (shape storeys n ports) limits b w)

  abbrev pub ports_push : ℕ → ℕ → ℕ → ℕ → BucketAfter
  ports_push port rank tag bytes = bucket_done (pushed (shape storeys n ports) port b w (element rank tag bytes))

  abbrev pub ports_pop : ℕ → List ℕ → BucketAfterOut
  ports_pop port out = bucket_answered (popped (shape storeys n ports) port b w) b w out

  abbrev pub ports_replace : ℕ → ℕ → ℕ → ℕ → List ℕ → BucketAfterOut
  ports_replace port rank tag bytes out = bucket_answered (replaced (shape storeys n ports) port b w (element rank tag bytes)) b w out

  abbrev pub ports_held : ℕ → List ℕ → CountAfter
  ports_held port out = count_answered (held_count (shape storeys n ports) port b w) out

-- ---- sizes: the least lengths that the calls take, and 0 for a bad shape

-- the words of 64 bits, as many whatever the nodes
unfoldable pub ports_bits : ℕ → ℕ → ℕ
ports_bits storeys ports = let s = shape storeys 1 ports in cond (shape_ok s (bit_words s) (store_words s)) (bit_words s) 0

-- the words of 32 bits
unfoldable pub ports_words : ℕ → ℕ → ℕ → ℕ
ports_words storeys n ports = let s = shape storeys n ports in cond (shape_ok s (bit_words s) (store_words s)) (store_words s) 0
