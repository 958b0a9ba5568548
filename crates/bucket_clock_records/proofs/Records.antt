-- Records read and written one after the other.
use Rattle.laws.specs.Prelude.{Bool, Element, List, Pop, Push, Replace, Request, [], ◌&&◌, ◌+◌, ◌<◌, ◌∙◌, ◌∷◌, ◌≡◌, ◌≤◌, add-one, and_left, and_right, ap, arith, cond, eq-eqb, false, get_or, le_of_suc-le-suc, leb, leb-true, length, length-set, ne_eqb, not-suc-le-zero, refl, replicate, set, suc, sym, true, zero, ℕ}
use Rattle.bucket_clock_model.specs.declared.Waiting.{Waiting}
use Rattle.bucket_clock_model.specs.Desk.{fresh, no_work, record_count, waiting, work_at}
use Rattle.bucket_clock_records.specs.declared.WorksRead.{WorksRead}
use Rattle.bucket_clock_records.specs.Lent.{BucketRecord, carries, kind_in, kinds_from, lends, no_record, reach, read_of, record_by, record_of, waiting_of, way_in, works_back, works_read}

-- ---- how many
module _ (d len : ℕ) where
  pub lends-is : (leb d record_count && leb d len) ≡ lends d len
  unfolding lends
  lends-is = refl

  module _ (e : lends d len ≡ true) where
    pub lends-few : d ≤ record_count
    unfolding lends
    lends-few = leb-true d record_count (and_left (leb d record_count) (leb d len) e)

    pub lends-within : d ≤ len
    unfolding lends
    lends-within = leb-true d len (and_right (leb d record_count) (leb d len) e)

  pub reach-yes : (b : Bool) → b ≡ lends d len → b ≡ true → d ≡ cond (lends d len) d 0
  reach-yes b p e = rw (sym p ∙ e) refl

  pub reach-no : (b : Bool) → b ≡ lends d len → b ≡ false → 0 ≡ cond (lends d len) d 0
  reach-no b p e = rw (sym p ∙ e) refl

  pub reach-fits : (cond (lends d len) d 0 ≤ record_count) × (cond (lends d len) d 0 ≤ len)
  reach-fits = go (lends d len) refl
    where
      go : (b : Bool) → lends d len ≡ b → (cond b d 0 ≤ record_count) × (cond b d 0 ≤ len)
      go true e = (lends-few e, lends-within e)
      go false e = (omega arith, omega arith)

-- ---- one record read
module _ (r : BucketRecord) where
  pub is-push : (x : Element) → x ≡ carries r → kind_in r ≡ 1 → waiting (Push x) 0 ≡ waiting_of r
  unfolding waiting_of
  is-push x p e = rw (eq-eqb (kind_in r) 1 e) (ap (λ (x : Element). waiting (Push x) 0) p)

  module _ (a : kind_in r ≡ 1 → ⊥) where
    pub is-pop : kind_in r ≡ 2 → waiting Pop (way_in r) ≡ waiting_of r
    unfolding waiting_of
    is-pop e = rw (ne_eqb (kind_in r) 1 a, eq-eqb (kind_in r) 2 e) refl

    module _ (b : kind_in r ≡ 2 → ⊥) where
      pub is-replace : (x : Element) → x ≡ carries r → kind_in r ≡ 3 → waiting (Replace x) (way_in r) ≡ waiting_of r
      unfolding waiting_of
      is-replace x p e = rw (ne_eqb (kind_in r) 1 a, ne_eqb (kind_in r) 2 b, eq-eqb (kind_in r) 3 e) (ap (λ (x : Element). waiting (Replace x) (way_in r)) p)

      pub is-nothing : (kind_in r ≡ 3 → ⊥) → (g : Waiting) → g ≡ no_work → g ≡ waiting_of r
      unfolding waiting_of
      is-nothing d g e = rw (ne_eqb (kind_in r) 1 a, ne_eqb (kind_in r) 2 b, ne_eqb (kind_in r) 3 d) e

-- ---- all of them
-- a record of the slice, whatever is taken for those past it
pub here : (rs : List BucketRecord) (i : ℕ) → i < length rs → get_or rs i [] ≡ get_or rs i no_record
here [] i h = absurd (not-suc-le-zero h)
here (r ∷ rs) zero h = refl
here (r ∷ rs) (suc i) h = here rs i (le_of_suc-le-suc h)

pub works-none : (rs : List BucketRecord) → replicate record_count no_work ≡ works_read 0 rs
unfolding works_read fresh
works-none rs = refl

pub works-more : (i : ℕ) (rs : List BucketRecord) (gs : List Waiting) → gs ≡ works_read i rs → (g : Waiting) → g ≡ waiting_of (get_or rs i no_record) → set gs i g ≡ works_read (i + 1) rs
unfolding works_read
works-more i rs gs p g e = rw add-one (λ j. set (p j) i (e j))

pub kinds-none : (b : Bool) (rs : List BucketRecord) → b ≡ kinds_from b 0 rs
unfolding kinds_from
kinds-none b rs = refl

pub kinds-more : (b : Bool) (i : ℕ) (rs : List BucketRecord) (ok : Bool) → ok ≡ kinds_from b i rs → (t : Bool) → t ≡ leb (kind_in (get_or rs i no_record)) 3 → (ok && t) ≡ kinds_from b (i + 1) rs
unfolding kinds_from
kinds-more b i rs ok p t e = rw add-one (λ j. p j && e j)

pub load-ends : (d : ℕ) (rs : List BucketRecord) (b : Bool) (n i : ℕ) → b ≡ lends d (length rs) → n ≡ reach d rs → i ≤ n → n ≤ i → (gs : List Waiting) → gs ≡ works_read i rs → (ok : Bool) → ok ≡ kinds_from b i rs
    → ◌≡◌ {A = WorksRead} (record { works = gs; ok = ok }) (read_of d rs)
load-ends d rs b n i e f h l gs p ok o =
    let g : i ≡ reach d rs = omega arith ∙ f in
    let q : ok ≡ kinds_from (lends d (length rs)) (reach d rs) rs = o ∙ (λ j. kinds_from (e j) (g j) rs) in
    let r : gs ≡ works_read (reach d rs) rs = p ∙ ap (λ (k : ℕ). works_read k rs) g in
    λ j. record { works = r j; ok = q j }

-- all kinds are kinds only where the slice is long enough
pub read-lends : (b : Bool) (k : ℕ) (rs : List BucketRecord) → kinds_from b k rs ≡ true → b ≡ true
unfolding kinds_from
read-lends b zero rs e = e
read-lends b (suc k) rs e = read-lends b k rs (and_left (kinds_from b k rs) (leb (kind_in (get_or rs k no_record)) 3) e)

-- ---- written back, one after the other
pub record_is : (g : Waiting) (q : Request) (r : BucketRecord) → g.does ≡ q → r ≡ record_by q g.way → r ≡ record_of g
record_is g q r e p = p ∙ ap (λ (q : Request). record_by q g.way) (sym e)

pub back_none : (gs : List Waiting) (rs : List BucketRecord) → rs ≡ works_back 0 gs rs
unfolding works_back
back_none gs rs = refl

pub back-length : (k : ℕ) (gs : List Waiting) (rs : List BucketRecord) → length (works_back k gs rs) ≡ length rs
unfolding works_back
back-length zero gs rs = refl
back-length (suc k) gs rs = length-set (works_back k gs rs) k (record_of (work_at gs k)) ∙ back-length k gs rs

pub back_more : (i : ℕ) (gs : List Waiting) (rs now : List BucketRecord) → now ≡ works_back i gs rs → (r : BucketRecord) → r ≡ record_of (work_at gs i) → set now i r ≡ works_back (i + 1) gs rs
unfolding works_back
back_more i gs rs now p r e = rw add-one (λ j. set (p j) i (e j))

pub back-ends : (n i : ℕ) (gs : List Waiting) (rs now : List BucketRecord) → i ≤ n → n ≤ i → now ≡ works_back i gs rs → now ≡ works_back n gs rs
back-ends n i gs rs now h l p = let f : i ≡ n = omega arith in p ∙ ap (λ (k : ℕ). works_back k gs rs) f
