-- PINNED: what the contract of each exported call allows is one outcome: the number returned and every word afterwards.
use Rattle.laws.specs.Prelude.{List, ◌∙◌, ◌≡◌, ap, sym, ℕ}
use Rattle.card_bucket.specs.Bucket.{bucket_after, BucketAfter, bucket_after_out, BucketAfterOut, bucket_clear, bucket_held, bucket_pop, bucket_push, bucket_replace}
use Rattle.card_words.proofs.Pinned.{count}
use Rattle.card_words.specs.Out.{count_after}

pub bucket : (o : BucketAfter) (n k : ℕ) (a b v w : List ℕ) → bucket_after n a v ≡ o → bucket_after k b w ≡ o → (n ≡ k) × (a ≡ b) × (v ≡ w)
bucket o n k a b v w p q =
    (ap (λ (o : BucketAfter). o.number) (p ∙ sym q), ap (λ (o : BucketAfter). o.bits) (p ∙ sym q), ap (λ (o : BucketAfter). o.words) (p ∙ sym q))

pub bucket-out : (o : BucketAfterOut) (n k : ℕ) (a b v w x y : List ℕ) → bucket_after_out n a v x ≡ o → bucket_after_out k b w y ≡ o → (n ≡ k) × (a ≡ b) × (v ≡ w) × (x ≡ y)
bucket-out o n k a b v w x y p q = (
  ap (λ (o : BucketAfterOut). o.number) (p ∙ sym q),
  ap (λ (o : BucketAfterOut). o.bits) (p ∙ sym q),
  ap (λ (o : BucketAfterOut). o.words) (p ∙ sym q),
  ap (λ (o : BucketAfterOut). o.out) (p ∙ sym q),
)

-- ---- the bucket queue; n and k are two numbers returned, a and b two slices of bits, v and w two of words, x and y two `out`s
module _ (bits words : List ℕ) (storeys nodes : ℕ) (n k : ℕ) (a b v w : List ℕ) where
  pub pinned-bucket-clear : bucket_after n a v ≡ bucket_clear bits words storeys nodes → bucket_after k b w ≡ bucket_clear bits words storeys nodes → (n ≡ k) × (a ≡ b) × (v ≡ w)
  pinned-bucket-clear p q = bucket (bucket_clear bits words storeys nodes) n k a b v w p q

  pub pinned-bucket-push : (rank tag bytes : ℕ) → bucket_after n a v ≡ bucket_push bits words storeys nodes rank tag bytes → bucket_after k b w ≡ bucket_push bits words storeys nodes rank tag bytes
      → (n ≡ k) × (a ≡ b) × (v ≡ w)
  pinned-bucket-push rank tag bytes p q = bucket (bucket_push bits words storeys nodes rank tag bytes) n k a b v w p q

  module _ (out x y : List ℕ) where
    pub pinned-bucket-pop : bucket_after_out n a v x ≡ bucket_pop bits words storeys nodes out → bucket_after_out k b w y ≡ bucket_pop bits words storeys nodes out
        → (n ≡ k) × (a ≡ b) × (v ≡ w) × (x ≡ y)
    pinned-bucket-pop p q = bucket-out (bucket_pop bits words storeys nodes out) n k a b v w x y p q

    pub pinned-bucket-replace : (rank tag bytes : ℕ) → bucket_after_out n a v x ≡ bucket_replace bits words storeys nodes rank tag bytes out → bucket_after_out k b w y ≡ bucket_replace bits words storeys nodes rank tag bytes out
        → (n ≡ k) × (a ≡ b) × (v ≡ w) × (x ≡ y)
    pinned-bucket-replace rank tag bytes p q = bucket-out (bucket_replace bits words storeys nodes rank tag bytes out) n k a b v w x y p q

pub pinned-bucket-held : (bits words : List ℕ) (storeys nodes : ℕ) (out : List ℕ) (n k : ℕ) (x y : List ℕ) → count_after n x ≡ bucket_held bits words storeys nodes out
    → count_after k y ≡ bucket_held bits words storeys nodes out → (n ≡ k) × (x ≡ y)
pinned-bucket-held bits words storeys nodes out n k x y p q = count (bucket_held bits words storeys nodes out) n k x y p q
