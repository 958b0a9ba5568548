-- A storey on the words does what its counts do.
use Rattle.laws.specs.Prelude.{Element, List, Upd, [], ◌%◌, ◌*◌, ◌+◌, ◌-◌, ◌/◌, ◌<◌, ◌^◌, ◌∙◌, ◌∷◌, ◌≡◌, ◌≤◌, ap, arith, eq-eqb, is-upd, length, length-set, ne_eqb, pow-suc, pred, refl, same-upd, set, subst, suc, sym, upd, zero, ℕ, ℕ_discrete}
use lib.Count.{count_trailing_zeros}
use Rattle.bucket_model.proofs.Laws.{Down, Tells, Tower, nz, nz-one, nz-zero, other, same, storey-down, storey-ext, storey-less, storey-more, storey-none, storey-off, tells-same, tower-ext, up}
use Rattle.bucket_model.specs.Prelude.{Storey, storeys_from, word, words_of}
use Rattle.promise.specs.Prelude.{hit}
use Rattle.std.specs.Prelude.{Some}
use Rattle.bucket_clock_model.specs.Lists.{at, many}
use Rattle.bucket_clock_model.specs.Pipe.{below, lead, lowest_from, under}
use Rattle.bucket_clock_model.specs.Words.{bit_off, bit_on, count_at, Floor, storey_put, storey_take, way_below}
use Rattle.bucket_clock_model.proofs.Counts.{hit-le}
use Rattle.bucket_clock_model.proofs.Storey.{lead-suc, lowest-is}

-- the words of the storey p have the counts g, and a bit is set exactly if its count is not 0
pub record Tallied (p : Storey) (s : Floor) (g : ℕ → ℕ) : Type 0 where
  pub long : 64 * p.base + 64 * p.words ≤ length s.counts
  pub count : (j : ℕ) → j < 64 * p.words → word s.counts (count_at p j) ≡ g j
  pub tells : Tells s.bits p.base p.words (λ j. nz (g j))

pub tallied-ext : (p : Storey) (s : Floor) (g h : ℕ → ℕ) → ((j : ℕ) → j < 64 * p.words → h j ≡ g j) → Tallied p s g → Tallied p s h
tallied-ext p s g h e t =
    record {
      long = t.long;
      count = λ j l. t.count j l ∙ sym (e j l);
      tells = storey-ext s.bits p.base p.words (λ j. nz (g j)) (λ j. nz (h j)) (λ j l. ap nz (e j l)) t.tells;
    }

one_not_zero : ◌≡◌ {A = ℕ} 1 0 → ⊥
one_not_zero e = omega arith

module _ (p : Storey) (s : Floor) (g : ℕ → ℕ) (t : Tallied p s g) where
  -- a count written
  count_set : (m v : ℕ) → m < 64 * p.words → (j : ℕ) → j < 64 * p.words → word (set s.counts (count_at p m) v) (count_at p j) ≡ upd g m v j
  count_set m v l j h = elim (ℕ_discrete j m) [
    | yes e ↦ ap (λ (i : ℕ). word (set s.counts (count_at p m) v) (count_at p i)) e ∙ same s.counts (count_at p m) v (omega (arith, t.long)) ∙ sym (ap (upd g m v) e ∙ (is-upd g m v).here)
    | no e ↦ other s.counts (count_at p m) v (count_at p j) (λ q. e (omega arith)) ∙ t.count j h ∙ sym ((is-upd g m v).else j e)
  ]

  nz-upd : (m v : ℕ) → Upd (λ j. nz (g j)) (λ j. nz (upd g m v j)) m (nz v)
  nz-upd m v = record { here = ap nz (is-upd g m v).here; else = λ j e. ap nz ((is-upd g m v).else j e) }

  -- ---- the way: the lowest bit of the word is the first count that is not 0
  module _ (w : ℕ) (w< : w < p.words) (Some : (word s.bits (p.base + w) ≡ 0 → ⊥)) where
    down : Down (λ j. nz (g j)) w (count_trailing_zeros 64 (word s.bits (p.base + w)))
    down = storey-down s.bits p.base p.words (λ j. nz (g j)) w w< (omega arith) t.tells

    pub way-is : lowest_from g (64 * w) 64 ≡ way_below p s.bits w
    way-is =
        let b = count_trailing_zeros 64 (word s.bits (p.base + w)) in
        lowest-is g 64 (64 * w) (64 * w + b) (omega arith) (omega (arith, down.within))
        (λ z. one_not_zero (sym down.here ∙ ap nz z))
        (λ j a h. let e : 64 * w + (j - 64 * w) ≡ j = omega arith in nz-zero (g j) (rw e at (down.below (j - 64 * w) (omega arith))))

    pub way-within : way_below p s.bits w < 64 * p.words
    way-within = omega (arith, down.within)

  -- ---- less and more
  off-tells : (m n : ℕ) → m < 64 * p.words → (g m ≡ 0 → ⊥) → Tells (bit_off p m n s.bits) p.base p.words (λ j. nz (upd g m n j))
  off-tells m zero h c = storey-less s.bits p.base p.words (λ j. nz (g j)) (λ j. nz (upd g m 0 j)) m h (nz-one (g m) (omega arith)) (nz-upd m 0) t.tells
  off-tells m (suc n) h c = storey-ext s.bits p.base p.words (λ j. nz (g j)) (λ j. nz (upd g m (suc n) j)) (λ j l. same-upd (λ j. nz (g j)) (λ j. nz (upd g m (suc n) j)) m 1 (nz-upd m (suc n)) (nz-one (g m) (omega arith)) j) t.tells

  on-tells : (m n : ℕ) → m < 64 * p.words → g m ≡ n → Tells (bit_on p m n s.bits) p.base p.words (λ j. nz (upd g m (suc n) j))
  on-tells m zero h e = storey-more s.bits p.base p.words (λ j. nz (g j)) (λ j. nz (upd g m 1 j)) m h (ap nz e) (nz-upd m 1) t.tells
  on-tells m (suc n) h e = storey-ext s.bits p.base p.words (λ j. nz (g j)) (λ j. nz (upd g m (suc (suc n)) j)) (λ j l. same-upd (λ j. nz (g j)) (λ j. nz (upd g m (suc (suc n)) j)) m 1 (nz-upd m (suc (suc n))) (ap nz e) j) t.tells

  pub take-tallied : (m : ℕ) → m < 64 * p.words → (g m ≡ 0 → ⊥) → Tallied p (storey_take p m s) (upd g m (pred (g m)))
  unfolding storey_take
  take-tallied m h c = rw (t.count m h) (record { long = simp length-set t.long; count = count_set m (pred (g m)) h; tells = off-tells m (pred (g m)) h c })

  pub put-tallied : (m : ℕ) → m < 64 * p.words → Tallied p (storey_put p m s) (upd g m (suc (g m)))
  unfolding storey_put
  put-tallied m h = rw (t.count m h) (record { long = simp length-set t.long; count = count_set m (suc (g m)) h; tells = on-tells m (g m) h refl })

-- ---- a stage's own words alone are written

abbrev pub Apart : Storey → Storey → Type 0
Apart q p = (i j : ℕ) → i < q.words → j < p.words → q.base + i ≡ p.base + j → ⊥

module _ (q p : Storey) (far : Apart q p) (s : Floor) (g : ℕ → ℕ) (t : Tallied q s g) (m : ℕ) (h : m < 64 * p.words) where
  count-off : (v j : ℕ) → j < 64 * q.words → word (set s.counts (count_at p m) v) (count_at q j) ≡ g j
  count-off v j l = other s.counts (count_at p m) v (count_at q j) (λ e. far (j / 64) (m / 64) (omega arith) (omega arith) (omega arith)) ∙ t.count j l

  bits-off : (v : ℕ) → Tells (set s.bits (p.base + m / 64) v) q.base q.words (λ j. nz (g j))
  bits-off v = storey-off s.bits q.base q.words (λ j. nz (g j)) (p.base + m / 64) v (λ i l e. far i (m / 64) l (omega arith) e) t.tells

  bit_off-off : (n : ℕ) → Tells (bit_off p m n s.bits) q.base q.words (λ j. nz (g j))
  bit_off-off zero = bits-off _
  bit_off-off (suc n) = t.tells

  bit_on-off : (n : ℕ) → Tells (bit_on p m n s.bits) q.base q.words (λ j. nz (g j))
  bit_on-off zero = bits-off _
  bit_on-off (suc n) = t.tells

  pub take-off : Tallied q (storey_take p m s) g
  unfolding storey_take
  take-off = record { long = simp length-set t.long; count = count-off (pred (word s.counts (count_at p m))); tells = bit_off-off (pred (word s.counts (count_at p m))) }

  pub put-off : Tallied q (storey_put p m s) g
  unfolding storey_put
  put-off = record { long = simp length-set t.long; count = count-off (suc (word s.counts (count_at p m))); tells = bit_on-off (word s.counts (count_at p m)) }

-- ---- words that tell the same counts are the same words

-- WORD FOR WORD: so a storey is, bit by bit and count by count, that of any other store with these counts
pub words_same : (p : Storey) (s u : Floor) (g : ℕ → ℕ) → Tallied p s g → Tallied p u g → (i : ℕ) → i < p.words → word s.bits (p.base + i) ≡ word u.bits (p.base + i)
words_same p s u g t v i h = tells-same s.bits u.bits p.base p.words (λ j. nz (g j)) t.tells v.tells i h

-- ---- one at a time: each storey tells the counts of its list

-- what is below a bit is below one of the 64 under it
sum-le : (d g u : ℕ) (l : List Element) → u < 64 → below d l (64 * g + u) ≤ below (suc d) l g
unfolding many
sum-le d g u [] h = omega arith
sum-le d g u (x ∷ l) h = omega (arith, sum-le d g u l h, one (ℕ_discrete (lead d x.rank.0) (64 * g + u)))
  where
    one : Dec (lead d x.rank.0 ≡ 64 * g + u) → hit (under d (64 * g + u) x) ≤ hit (under (suc d) g x)
    one (yes e) = let f : lead (suc d) x.rank.0 ≡ g = lead-suc d x.rank.0 ∙ omega arith in omega (arith, hit-le (under d (64 * g + u) x), ap hit (eq-eqb (lead (suc d) x.rank.0) g f))
    one (no e) = omega (arith, ap hit (ne_eqb (lead d x.rank.0) (64 * g + u) e))

all_none : (d g : ℕ) (l : List Element) → ((u : ℕ) → u < 64 → below d l (64 * g + u) ≡ 0) → below (suc d) l g ≡ 0
unfolding many
all_none d g [] h = refl
all_none d g (x ∷ l) h = one (ℕ_discrete (lead (suc d) x.rank.0) g) (all_none d g l (λ u a. omega (arith, h u a)))
  where
    one : Dec (lead (suc d) x.rank.0 ≡ g) → below (suc d) l g ≡ 0 → hit (under (suc d) g x) + below (suc d) l g ≡ 0
    one (yes e) ih =
        let f : lead d x.rank.0 / 64 ≡ g = sym (lead-suc d x.rank.0) ∙ e in
        let k : lead d x.rank.0 ≡ 64 * g + lead d x.rank.0 % 64 = omega arith in
        absurd (omega (arith, h (lead d x.rank.0 % 64) (omega arith), ap hit (eq-eqb (lead d x.rank.0) (64 * g + lead d x.rank.0 % 64) k)))
    one (no e) ih = omega (arith, ap hit (ne_eqb (lead (suc d) x.rank.0) g e))

module _ (b : List ℕ) (base m d : ℕ) (l : List Element) (z : Tells b base m (λ j. nz (below d l j))) where
  -- a word is 0 exactly if nothing is below the bit above it
  pub up-below : (g : ℕ) → g < m → nz (word b (base + g)) ≡ nz (below (suc d) l g)
  up-below g h = elim (ℕ_discrete (word b (base + g)) 0) [
    | yes e ↦ ap nz e ∙ sym (ap nz (all_none d g l (λ u a. nz-zero (below d l (64 * g + u)) (storey-none b base m (λ j. nz (below d l j)) g h e z u a))))
    | no e ↦ let y = storey-down b base m (λ j. nz (below d l j)) g h (omega arith) z in
        nz-one (word b (base + g)) (omega arith) ∙ sym (nz-one (below (suc d) l g) (some_below (count_trailing_zeros 64 (word b (base + g))) y.within y.here))
  ]
    where
      some_below : (u : ℕ) → u < 64 → nz (below d l (64 * g + u)) ≡ 1 → 0 < below (suc d) l g
      some_below u a e = elim (ℕ_discrete (below d l (64 * g + u)) 0) [
        | yes f ↦ absurd (one_not_zero (sym e ∙ ap nz f))
        | no f ↦ omega (arith, sum-le d g u l a)
      ]

-- STOREYS-TELL: where the lowest storey tells of each rank whether anything is held, the storey above d others tells what is below its bits
tell-from : (b : List ℕ) (o : ℕ) (l : List Element) (e c n N D : ℕ) → N ≡ e + n → D ≡ e + c → Tower b (storeys_from o (suc N)) (λ j. nz (below c l j))
    → Tells b (o + words_of n) (64 ^ n) (λ j. nz (below D l j))
tell-from b o l zero c n N D p q z =
    let p' : N ≡ n = omega arith in
    let q' : D ≡ c = omega arith in
    rw (q', ← p') z.0
tell-from b o l (suc e) c n zero D p q z = absurd (omega arith)
tell-from b o l (suc e) c n (suc N) D p q z =
    tell-from b o l e (suc c) n N D (omega arith) (omega arith)
    (tower-ext b (storeys_from o (suc N)) (up b (o + words_of (suc N))) (λ j. nz (below (suc c) l j)) (λ j h. sym (up-below b (o + words_of (suc N)) (64 ^ suc N) c l z.0 j (omega (arith, pow-suc 64 N)))) z.1)

pub storeys-tell : (b : List ℕ) (o n d S : ℕ) (l : List Element) → S ≡ suc (d + n) → Tower b (storeys_from o S) (λ j. nz (below 0 l j)) → Tells b (o + words_of n) (64 ^ n) (λ j. nz (below d l j))
storeys-tell b o n d S l e z = tell-from b o l d 0 n (d + n) d refl (omega arith) (subst (λ (i : ℕ). Tower b (storeys_from o i) (λ j. nz (below 0 l j))) e z)
