-- The bucket queue's and the ports' calls hand on what C hands over, in plain numbers, all different. Their stores are thousands of words long: the words themselves are computed in `card_cases`.
use Rattle.laws.specs.Prelude.{Element, List, ◌≡◌, refl, ℕ}
use Rattle.bucket_model.specs.Prelude.{popped, pushed, queue, replaced}
use Rattle.card_bucket.specs.Bucket.{bucket_answered, bucket_done, bucket_pop, bucket_push, bucket_replace}
use Rattle.card_bucket.specs.Ports.{ports_pop, ports_push, ports_replace}
use Rattle.card_words.specs.Cases.{out4}
use Rattle.ports_model.specs.Calls as ports
use Rattle.ports_model.specs.declared.Shape.{Shape}

abbrev five : Element
five = record { rank = record { 0 = 5 }; tag = record { 0 = 50 }; length = record { 0 = 500 } }

abbrev pool : Shape
pool = record { storeys = 3; nodes = 7; ports = 4 }

module _ (b w : List ℕ) where
  pub bucket-push-handed : bucket_push b w 3 7 5 50 500 ≡ bucket_done (pushed (queue 3 7) b w five)
  bucket-push-handed = refl

  pub bucket-pop-handed : bucket_pop b w 3 7 out4 ≡ bucket_answered (popped (queue 3 7) b w) b w out4
  bucket-pop-handed = refl

  pub bucket-replace-handed : bucket_replace b w 3 7 5 50 500 out4 ≡ bucket_answered (replaced (queue 3 7) b w five) b w out4
  bucket-replace-handed = refl

  pub ports-push-handed : ports_push b w 3 7 4 2 5 50 500 ≡ bucket_done (ports.pushed pool 2 b w five)
  ports-push-handed = refl

  pub ports-pop-handed : ports_pop b w 3 7 4 2 out4 ≡ bucket_answered (ports.popped pool 2 b w) b w out4
  ports-pop-handed = refl

  pub ports-replace-handed : ports_replace b w 3 7 4 2 5 50 500 out4 ≡ bucket_answered (ports.replaced pool 2 b w five) b w out4
  ports-replace-handed = refl
