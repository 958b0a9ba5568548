-- The ports' sizes; a refusal's zeros; and that each contract allows one outcome.
use Rattle.laws.specs.Prelude.{Bool, List, ◌&&◌, ◌∙◌, ◌≡◌, ap, arith, cond, eqb, false, le-leb, leb, ne_eqb, not, not-false, not-true, refl, sym, true, ℕ}
use Rattle.card_bucket.proofs.Pinned.{bucket, bucket-out}
use Rattle.card_words.proofs.Pinned.{count}
use Rattle.card_bucket.proofs.Zeros.{bucket-zeros}
use Rattle.card_bucket.specs.Bucket.{bucket_after, bucket_after_out}
use Rattle.card_words.specs.Out.{answer_words, count_after, refused_out}
use Rattle.card_bucket.specs.Ports.{ports_bits, ports_clear, ports_held, ports_pop, ports_push, ports_replace, ports_words, shape}
use Rattle.bucket_model.specs.Prelude.{Outcome, depth_ok, pool}
use Rattle.ports_model.specs.Prelude.{bit_words, most_ports, shape_ok, store_words}
use Rattle.ports_model.specs.declared.Shape.{Shape}
use Rattle.ports_step.proofs.Sums.{numbers-mean}
use Rattle.ports_step.specs.Sums.{Numbers, numbers_ok}

-- the same call of the same shape
pub at-shape : (f : Shape → Outcome) (s t : Shape) (o : Outcome) → s ≡ t → o ≡ f s → o ≡ f t
at-shape f s t o e h = h ∙ ap f e

-- ---- SIZES

-- slices as long as the words that a pool has are long enough
enough : (s : Shape) → shape_ok s (bit_words s) (store_words s) ≡ numbers_ok s
unfolding shape_ok
enough s = rw (le-leb (bit_words s) (bit_words s) (omega arith), le-leb (store_words s) (store_words s) (omega arith)) (go (numbers_ok s))
  where
    go : (t : Bool) → ((t && true) && true) ≡ t
    go true = refl
    go false = refl

module _ (s : Shape) (ok : Bool) (e : ok ≡ numbers_ok s) where
  pub numbered : not ok ≡ false → Numbers s
  numbered h = (numbers-mean s).says (sym e ∙ not-false ok h)

  pub size_none : (n : ℕ) → not ok ≡ true → 0 ≡ cond (shape_ok s (bit_words s) (store_words s)) n 0
  size_none n h = sym (ap (λ (t : Bool). cond t n 0) (enough s ∙ sym e ∙ not-true ok h))

  pub size-some : (n m : ℕ) → not ok ≡ false → m ≡ n → m ≡ cond (shape_ok s (bit_words s) (store_words s)) n 0
  size-some n m h q = q ∙ sym (ap (λ (t : Bool). cond t n 0) (enough s ∙ sym e ∙ not-false ok h))

module _ (storeys ports : ℕ) (ok : Bool) (e : ok ≡ numbers_ok (shape storeys 1 ports)) where
  pub bits_none : not ok ≡ true → 0 ≡ ports_bits storeys ports
  unfolding ports_bits
  bits_none h = size_none (shape storeys 1 ports) ok e _ h

  pub bits-some : (m : ℕ) → not ok ≡ false → m ≡ bit_words (shape storeys 1 ports) → m ≡ ports_bits storeys ports
  unfolding ports_bits
  bits-some m h q = size-some (shape storeys 1 ports) ok e _ m h q

module _ (storeys n ports : ℕ) (ok : Bool) (e : ok ≡ numbers_ok (shape storeys n ports)) where
  pub words-none : not ok ≡ true → 0 ≡ ports_words storeys n ports
  unfolding ports_words
  words-none h = size_none (shape storeys n ports) ok e _ h

  pub words-some : (m : ℕ) → not ok ≡ false → m ≡ store_words (shape storeys n ports) → m ≡ ports_words storeys n ports
  unfolding ports_words
  words-some m h q = size-some (shape storeys n ports) ok e _ m h q

-- a call takes the shape exactly if the size is not 0 and the slices are as long
pub ports-size : (bits words storeys n ports : ℕ) → shape_ok (shape storeys n ports) bits words ≡ ((not (eqb (ports_words storeys n ports) 0) && leb (ports_bits storeys ports) bits) && leb (ports_words storeys n ports) words)
unfolding ports_words ports_bits shape_ok
ports-size bits words storeys n ports = go (depth_ok storeys) (leb 1 n) (leb n pool) (leb 1 ports) (leb ports most_ports)
  where
    tall : ℕ
    tall = bit_words (shape storeys n ports)

    long : ℕ
    long = store_words (shape storeys n ports)

    least : ℕ
    least = store_words (shape storeys 1 ports)

    go : (t a b c d : Bool) → ((((((t && a) && b) && c) && d) && leb tall bits) && leb long words)
        ≡ ((not (eqb (cond ((((((t && a) && b) && c) && d) && leb tall tall) && leb long long) long 0) 0) && leb (cond ((((((t && leb 1 1) && leb 1 pool) && c) && d) && leb tall tall) && leb least least) tall 0) bits) && leb (cond ((((((t && a) && b) && c) && d) && leb tall tall) && leb long long) long 0) words)
    go true true true true true =
        let more : long ≡ 0 → ⊥ = λ z. omega arith in
        rw (le-leb tall tall (omega arith), le-leb long long (omega arith), le-leb least least (omega arith), ne_eqb long 0 more) refl
    go true true true true false = refl
    go true true true false d = refl
    go true true false c d = refl
    go true false b c d = refl
    go false a b c d = refl

-- ---- ZEROS: a refused call answers zeros wherever `out` is long enough, and does not touch one that is too short
module _ (b w : List ℕ) (storeys n ports port : ℕ) (out : List ℕ) where
  pub zeros-ports-pop : ((ports_pop b w storeys n ports port out).number ≡ 0 → ⊥) → (ports_pop b w storeys n ports port out).out ≡ refused_out answer_words out
  zeros-ports-pop h = bucket-zeros _ b w out h

  pub zeros-ports-replace : (rank tag bytes : ℕ) → ((ports_replace b w storeys n ports port rank tag bytes out).number ≡ 0 → ⊥) → (ports_replace b w storeys n ports port rank tag bytes out).out ≡ refused_out answer_words out
  zeros-ports-replace rank tag bytes h = bucket-zeros _ b w out h

-- ---- PINNED; n and k are two numbers returned, a and b two slices of bits, v and w two of words, x and y two `out`s
module _ (bits words : List ℕ) (storeys nodes ports : ℕ) (n k : ℕ) (a b v w : List ℕ) where
  pub pinned-ports-clear : (limits : List ℕ) → bucket_after n a v ≡ ports_clear bits words storeys nodes ports limits → bucket_after k b w ≡ ports_clear bits words storeys nodes ports limits → (n ≡ k) × (a ≡ b) × (v ≡ w)
  pinned-ports-clear limits p q = bucket (ports_clear bits words storeys nodes ports limits) n k a b v w p q

  module _ (port : ℕ) where
    pub pinned-ports-push : (rank tag bytes : ℕ) → bucket_after n a v ≡ ports_push bits words storeys nodes ports port rank tag bytes → bucket_after k b w ≡ ports_push bits words storeys nodes ports port rank tag bytes
        → (n ≡ k) × (a ≡ b) × (v ≡ w)
    pinned-ports-push rank tag bytes p q = bucket (ports_push bits words storeys nodes ports port rank tag bytes) n k a b v w p q

    module _ (out x y : List ℕ) where
      pub pinned-ports-pop : bucket_after_out n a v x ≡ ports_pop bits words storeys nodes ports port out → bucket_after_out k b w y ≡ ports_pop bits words storeys nodes ports port out
          → (n ≡ k) × (a ≡ b) × (v ≡ w) × (x ≡ y)
      pinned-ports-pop p q = bucket-out (ports_pop bits words storeys nodes ports port out) n k a b v w x y p q

      pub pinned-ports-replace : (rank tag bytes : ℕ) → bucket_after_out n a v x ≡ ports_replace bits words storeys nodes ports port rank tag bytes out → bucket_after_out k b w y ≡ ports_replace bits words storeys nodes ports port rank tag bytes out
          → (n ≡ k) × (a ≡ b) × (v ≡ w) × (x ≡ y)
      pinned-ports-replace rank tag bytes p q = bucket-out (ports_replace bits words storeys nodes ports port rank tag bytes out) n k a b v w x y p q

pub pinned-ports-held : (bits words : List ℕ) (storeys nodes ports port : ℕ) (out : List ℕ) (n k : ℕ) (x y : List ℕ) → count_after n x ≡ ports_held bits words storeys nodes ports port out
    → count_after k y ≡ ports_held bits words storeys nodes ports port out → (n ≡ k) × (x ≡ y)
pinned-ports-held bits words storeys nodes ports port out n k x y p q = count (ports_held bits words storeys nodes ports port out) n k x y p q
