-- Calls through C in plain numbers. The stores of the bucket queue and of the ports are thousands of words long: their rows are in `card_cases`. These are definitions;
-- the claim over the rows is in proofs/.
use Rattle.std.specs.Prelude.{◌∷◌}
use Rattle.laws.specs.Prelude.{List, []}
use Rattle.bucket_model.specs.Prelude.{filled}
use Rattle.card_bucket.specs.Bucket.{BucketAfter, BucketAfterOut}
use Rattle.card_bucket.specs.Ports.{ports_bits, ports_words}
use Rattle.card_words.specs.Cases.{got, Got, Row, sized}
use Rattle.card_words.specs.Sizes.{bucket_bits, bucket_words}

abbrev pub bucket_got : BucketAfter → Got
bucket_got o = got o.number (filled 0 o.bits ∷ filled 0 o.words ∷ []) []

abbrev pub bucket_out_got : BucketAfterOut → Got
bucket_out_got o = got o.number (filled 0 o.bits ∷ filled 0 o.words ∷ []) o.out

-- ---- sizes: a shape's words, and 0 for a bad one
unfoldable pub size_rows : List Row
size_rows =
    sized (bucket_bits 2) 65 ∷ sized (bucket_bits 3) 4161 ∷ sized (bucket_bits 4) 0 ∷ sized (bucket_words 2 5) 8209 ∷ sized (bucket_words 3 5) 524305 ∷ sized (bucket_words 2 0) 0
    ∷ sized (ports_bits 2 3) 195 ∷ sized (ports_words 2 5 3) 24601 ∷ sized (ports_words 2 5 17) 0
    ∷ []
