-- Powers of two, the level of a position, and how many a packed heap holds.
use Rattle.laws.specs.Prelude.{Bool, ◌+◌, ◌-◌, ◌<◌, ◌≡◌, ◌≤◌, ap, arith, cond, false, key, leb, leb-false, leb-true, not-suc-le-zero, refl, subst, suc, true, zero, ℕ}
use Rattle.promise.specs.Prelude.{always}
use Rattle.packed_model.specs.Node.{size}
use Rattle.packed_model.specs.Heap.{under, Heap, many, Sound}
use Rattle.packed_model.specs.Words.{depth}
use Rattle.packed_model.proofs.Tests.{hit-has, size-pos}
use Rattle.packed_model.proofs.Heap.{none-held}

-- the level of a position within the levels
pub record Deep (L t d : ℕ) : Type 0 where
  pub within : d < L
  pub from : size d ≤ t
  pub upto : t < size d + size d

pub deep : (L t : ℕ) → 0 < t → t < size L → Deep L t (depth L t)
unfolding size depth
deep zero t p q = absurd (omega arith)
deep (suc k) t p q = go (leb (size k) t) refl (deep k t p)
  where
    go : (b : Bool) → leb (size k) t ≡ b → (t < size k → Deep k t (depth k t)) → Deep (suc k) t (cond b k (depth k t))
    go true e ih = record { within = omega arith; from = leb-true (size k) t e; upto = q }
    go false e ih = let g = ih (leb-false (size k) t e) in record { within = omega (arith, g.within); from = g.from; upto = g.upto }

-- how many are held: d full levels and r more
pub count : (k d r : ℕ) (h : Heap k) → r ≤ size d → Sound k d r h → many always k h + 1 ≡ size d + r
unfolding many size
count zero d r h l s = rw (s.0, s.1) refl
count (suc k) zero zero h l s = omega (arith, none-held always (suc k) h s)
count (suc k) zero (suc r) h l s = omega (arith, s.0, hit-has always h.0 s.1, none-held always k h.1 s.2, none-held always k h.2 s.3)
count (suc k) (suc e) r h l s =
    omega (arith, hit-has always h.0 s.0, count k e (r - (r - size e)) h.1 (omega (arith, size-pos e)) s.2, count k e (r - size e) h.2 (omega arith) s.3)

-- a full level is the next level with nothing in it
pub up : (k d : ℕ) (h : Heap k) → Sound k d (size d) h → Sound k (suc d) 0 h
unfolding size
up zero d h s = absurd (omega (arith, size-pos d, s.1))
up (suc k) zero h s =
    (s.1, omega (arith, none-held (under (key h.0)) k h.1 s.2, none-held (under (key h.0)) k h.2 s.3), s.2, s.3)
up (suc k) (suc e) h s = (
  s.0,
  s.1,
  subst (λ (i : ℕ). Sound k (suc e) i h.1) (omega arith) (up k e h.1 (subst (λ (i : ℕ). Sound k e i h.1) (omega arith) s.2)),
  subst (λ (i : ℕ). Sound k (suc e) i h.2) (omega arith) (up k e h.2 (subst (λ (i : ℕ). Sound k e i h.2) (omega arith) s.3)),
)

pub down : (k d : ℕ) (h : Heap k) → Sound k (suc d) 0 h → Sound k d (size d) h
unfolding size
down zero d h s = absurd (omega (arith, s.0))
down (suc k) zero h s = (refl, s.0, subst (λ (i : ℕ). Sound k 0 i h.1) (omega arith) s.2, subst (λ (i : ℕ). Sound k 0 i h.2) (omega arith) s.3)
down (suc k) (suc e) h s = (
  s.0,
  s.1,
  subst (λ (i : ℕ). Sound k e i h.1) (omega arith) (down k e h.1 (subst (λ (i : ℕ). Sound k (suc e) i h.1) (omega arith) s.2)),
  subst (λ (i : ℕ). Sound k e i h.2) (omega arith) (down k e h.2 (subst (λ (i : ℕ). Sound k (suc e) i h.2) (omega arith) s.3)),
)

-- ---- powers grow
pub size-grow : (a b : ℕ) → a < b → size a + size a ≤ size b
unfolding size
size-grow a zero l = absurd (not-suc-le-zero l)
size-grow a (suc b) l = go (leb b a) refl (size-grow a b)
  where
    go : (t : Bool) → leb b a ≡ t → (a < b → size a + size a ≤ size b) → size a + size a ≤ size b + size b
    go true e ih = let z : a ≡ b = omega (arith, leb-true b a e) in rw z (omega arith)
    go false e ih = omega (arith, ih (leb-false b a e))

-- one count, one shape: however it is said as full levels and what is over
pub any-by : (P : ℕ → ℕ → Type 0) → ((d : ℕ) → P d (size d) → P (suc d) 0) → ((d : ℕ) → P (suc d) 0 → P d (size d)) → (d r d' r' : ℕ) → P d r → r ≤ size d → r' ≤ size d'
    → size d + r ≡ size d' + r' → P d' r'
unfolding size
any-by P up down d r d' r' s l l' e = go (leb (suc d) d') refl (leb (suc d') d) refl
  where
    go : (a : Bool) → leb (suc d) d' ≡ a → (b : Bool) → leb (suc d') d ≡ b → P d' r'
    go true p b q =
        let g = size-grow d d' (leb-true (suc d) d' p) in
        let z : suc d ≡ d' = same (leb (suc (suc d)) d') refl in
        let z0 : 0 ≡ r' = omega (arith, g, l, e) in
        let zr : r ≡ size d = omega (arith, g, l, e) in
        subst (λ (i : ℕ). P i r') z (subst (λ (j : ℕ). P (suc d) j) z0 (up d (subst (λ (j : ℕ). P d j) zr s)))
      where
        same : (c : Bool) → leb (suc (suc d)) d' ≡ c → suc d ≡ d'
        same true w = absurd (omega (arith, size-grow (suc d) d' (leb-true (suc (suc d)) d' w), l, e, size-pos d))
        same false w = omega (arith, leb-true (suc d) d' p, leb-false (suc (suc d)) d' w)
    go false p true q =
        let g = size-grow d' d (leb-true (suc d') d q) in
        let z : d ≡ suc d' = same (leb (suc (suc d')) d) refl in
        let z0 : r ≡ 0 = omega (arith, g, l', e) in
        let zr : size d' ≡ r' = omega (arith, g, l', e) in
        subst (λ (j : ℕ). P d' j) zr (down d' (subst (λ (i : ℕ). P i 0) z (subst (λ (j : ℕ). P d j) z0 s)))
      where
        same : (c : Bool) → leb (suc (suc d')) d ≡ c → d ≡ suc d'
        same true w = absurd (omega (arith, size-grow (suc d') d (leb-true (suc (suc d')) d w), l', e, size-pos d'))
        same false w = omega (arith, leb-true (suc d') d q, leb-false (suc (suc d')) d w)
    go false p false q =
        let z : d ≡ d' = omega (arith, leb-false (suc d) d' p, leb-false (suc d') d q) in
        let zr : r ≡ r' = omega (arith, e, ap size z) in
        subst (λ (j : ℕ). P d' j) zr (subst (λ (i : ℕ). P i r) z s)

pub any : (k d r d' r' : ℕ) (h : Heap k) → Sound k d r h → r ≤ size d → r' ≤ size d' → size d + r ≡ size d' + r' → Sound k d' r' h
any k d r d' r' h s l l' e = any-by (λ i j. Sound k i j h) (λ i. up k i h) (λ i. down k i h) d r d' r' s l l' e

-- no more than there is room for
pub room : (k d r : ℕ) (h : Heap k) → r ≤ size d → Sound k d r h → size d + r ≤ size k
unfolding size
room zero d r h l s = rw (s.0, s.1) (omega arith)
room (suc k) zero zero h l s = omega (arith, size-pos k)
room (suc k) zero (suc r) h l s = omega (arith, s.0, size-pos k)
room (suc k) (suc e) r h l s =
    omega (arith, room k e (r - (r - size e)) h.1 (omega (arith, size-pos e)) s.2, room k e (r - size e) h.2 (omega arith) s.3)
