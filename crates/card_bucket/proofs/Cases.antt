-- The sizes of stores, computed from the definitions.
use Rattle.laws.specs.Prelude.{All, refl}
use Rattle.bucket_model.specs.Checks as bucket
use Rattle.card_bucket.specs.Cases.{size_rows}
use Rattle.card_bucket.specs.Ports.{ports_bits, ports_words}
use Rattle.card_words.specs.Cases.{Right}
use Rattle.card_words.specs.Sizes.{bucket_bits, bucket_words}
use Rattle.ports_model.specs.Checks as ports

pub size-rows : All Right size_rows
unfolding size_rows bucket_bits bucket_words ports_bits ports_words bucket.shape_ok ports.shape_ok
size-rows = (refl, (refl, (refl, (refl, (refl, (refl, (refl, (refl, (refl, tt)))))))))
