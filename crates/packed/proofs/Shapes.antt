-- For the code of the shape, of positions, and of the tests that every call makes.
use Rattle.laws.specs.Prelude.{Bool, Element, List, ◌&&◌, ◌*◌, ◌+◌, ◌-◌, ◌<◌, ◌∙◌, ◌≡◌, ◌≤◌, ap, arith, cond, eq-eqb, false, is_blank, le-leb, leb, leb-false, leb-true, length, lt-leb, mul-le-mul_right, ne_eqb, not, not-suc-le-zero, refl, suc, sym, true, untagged, zero, ℕ}
use Rattle.packed_model.specs.Node.{size}
use Rattle.packed_model.specs.Words.{capacity, extent, word, depth, slot_in, slot_at, Lies}
use Rattle.packed_model.specs.Calls.{shape_ok, root_ok}
use Rattle.packed_model.specs.Causes.{Shape}
use Rattle.packed_model.proofs.Exactly.{shape-means}
use Rattle.packed_model.proofs.Tests.{size-pos}
use Rattle.packed_model.proofs.Numbers.{size-grow}
use Rattle.packed_model.proofs.Serve.{shape-lies}
use Rattle.packed_model.proofs.Slice.{slot-by}
use Rattle.packed.specs.Open.{Around}
use Rattle.packed_way.proofs.Slots.{tagged_is, zero_is}

last : size 17 ≡ 131072
unfolding size
last = refl

pub size-most : (k : ℕ) → k ≤ 17 → size k ≤ 131072
size-most k l = go (leb 17 k) refl
  where
    go : (b : Bool) → leb 17 k ≡ b → size k ≤ 131072
    go true e = let z : k ≡ 17 = omega (arith, l, leb-true 17 k e) in rw z (omega (arith, last))
    go false e = omega (arith, size-grow k 17 (leb-false 17 k e), last)

size-over : (k : ℕ) → 17 < k → 262144 ≤ size k
size-over k l = omega (arith, size-grow 17 k l, last)

-- ---- the shape, test by test
module _ (H levels len : ℕ) where
  pub shape-low : H < 1 → false ≡ shape_ok H levels len
  unfolding shape_ok
  shape-low a = rw (lt-leb 1 H a) refl

  pub shape-high : 1 ≤ H → 256 < H → false ≡ shape_ok H levels len
  unfolding shape_ok
  shape-high a b = rw (le-leb 1 H a, lt-leb H 256 b) refl

  pub shape-none : 1 ≤ H → H ≤ 256 → levels < 1 → false ≡ shape_ok H levels len
  unfolding shape_ok
  shape-none a b c = rw (le-leb 1 H a, le-leb H 256 b, lt-leb 1 levels c) refl

  too_many : 1 ≤ H → 17 < levels → 131071 < H * capacity levels
  unfolding capacity
  too_many a d = omega (arith, size-over levels d, mul-le-mul_right (size levels - 1) a)

  pub shape-deep : 1 ≤ H → H ≤ 256 → 1 ≤ levels → 17 < levels → false ≡ shape_ok H levels len
  unfolding shape_ok
  shape-deep a b c d = rw (le-leb 1 H a, le-leb H 256 b, le-leb 1 levels c, lt-leb (H * capacity levels) 131071 (too_many a d)) refl

  pub shape-rest : (q : ℕ) → 1 ≤ H → H ≤ 256 → 1 ≤ levels → q ≡ size levels → (leb (H * (q - 1)) 131071 && leb (H + H * (q - 1) * 3) len) ≡ shape_ok H levels len
  unfolding shape_ok capacity extent
  shape-rest q a b c e = rw (le-leb 1 H a, le-leb H 256 b, le-leb 1 levels c) (ap (λ (s : ℕ). leb (H * (s - 1)) 131071 && leb (H + H * (s - 1) * 3) len) e)

  pub shape-bounds : (q : ℕ) → H ≤ 256 → levels ≤ 17 → q ≡ size levels → H * (q - 1) ≤ 33554176
  shape-bounds q b d e = omega (arith, mul-le-mul_right (q - 1) b, size-most levels d, e)

  -- back again
  pub shape_is : shape_ok H levels len ≡ true → Shape H levels len
  shape_is = (shape-means H levels len).says

  pub shape-few : Shape H levels len → levels ≤ 17
  shape-few s = go (leb 18 levels) refl
    where
      go : (b : Bool) → leb 18 levels ≡ b → levels ≤ 17
      go true e = absurd (omega (arith, too_many s.one (leb-true 18 levels e), s.slots))
      go false e = omega (arith, leb-false 18 levels e)

-- ---- what a call finds around it
pub record Ground (H levels h len : ℕ) : Type 0 where
  pub shape : Shape H levels len
  pub few : levels ≤ 17
  pub lies : Lies H levels h len
  pub top : H + h * 3 + 3 ≤ len
  pub long : h < len

pub ground : (H levels h : ℕ) (ws : List ℕ) → Around H levels h ws → Ground H levels h (length ws)
unfolding extent
ground H levels h ws a =
    let s : Shape H levels (length ws) = shape_is H levels (length ws) a.shape in
    let l : Lies H levels h (length ws) = shape-lies H levels h (length ws) s a.heap in
    record { shape = s; few = shape-few H levels (length ws) s; lies = l; top = first levels s.some l; long = omega (arith, first levels s.some l) }
  where
    first : (k : ℕ) → 1 ≤ k → Lies H k h (length ws) → H + h * 3 + 3 ≤ length ws
    first zero z l = absurd (not-suc-le-zero z)
    first (suc k) z l = l.0

-- ---- positions
pub depth-here : (levels k t q : ℕ) → 0 < k → depth k t ≡ depth levels t → q ≡ size (k - 1) → q ≤ t → k - 1 ≡ depth levels t
unfolding depth
depth-here levels zero t q p e z l = absurd (not-suc-le-zero p)
depth-here levels (suc k) t q p e z l =
    let w : suc k - 1 ≡ k = omega arith in
    let y : q ≡ size k = z ∙ ap size w in
    w ∙ sym (ap (λ (b : Bool). cond b k (depth k t)) (le-leb (size k) t (omega (arith, y, l)))) ∙ e

pub depth-less : (levels k t q : ℕ) → 0 < k → depth k t ≡ depth levels t → q ≡ size (k - 1) → t < q → depth (k - 1) t ≡ depth levels t
unfolding depth
depth-less levels zero t q p e z l = absurd (not-suc-le-zero p)
depth-less levels (suc k) t q p e z l =
    let w : suc k - 1 ≡ k = omega arith in
    let y : q ≡ size k = z ∙ ap size w in
    ap (λ (i : ℕ). depth i t) w ∙ sym (ap (λ (b : Bool). cond b k (depth k t)) (lt-leb (size k) t (omega (arith, y, l)))) ∙ e

pub depth-none : (levels k t : ℕ) → k ≡ 0 → depth k t ≡ depth levels t → 0 ≡ depth levels t
unfolding depth
depth-none levels k t z e = sym (ap (λ (i : ℕ). depth i t) z) ∙ e

pub slot-at-is : (H h d r q : ℕ) → q ≡ size d → r < size d → H * (q - 1) + (h * q + r) ≡ slot_at H h d r
slot-at-is H h d r q e l = go q e (slot-by H h d r l) (size-pos d)
  where
    go : (p : ℕ) → p ≡ size d → slot_at H h d r + H ≡ h * size d + H * size d + r → 0 < size d → H * (p - 1) + (h * p + r) ≡ slot_at H h d r
    go zero e f z = absurd (omega (arith, e, z))
    go (suc p) e f z =
        let y : suc p - 1 ≡ p = omega arith in
        let a : h * size d ≡ h * suc p = ap (λ (x : ℕ). h * x) (sym e) in
        let b : H * size d ≡ H * suc p = ap (λ (x : ℕ). H * x) (sym e) in
        rw y (omega (arith, f, a, b))

pub slot-at-bounds : (H h d q : ℕ) → H ≤ 256 → h < H → d ≤ 16 → q ≡ size d → (H * (q - 1) ≤ 33554176) × (h * q ≤ 33554432)
slot-at-bounds H h d q a b c e =
    let s : size d ≤ 131072 = size-most d (omega arith) in
    (omega (arith, mul-le-mul_right (q - 1) a, s, e), omega (arith, mul-le-mul_right q (le_of H h a b), s, e))
  where
    le_of : (H h : ℕ) → H ≤ 256 → h < H → h ≤ 256
    le_of H h a b = omega arith

-- ---- the root
module _ (H levels h : ℕ) (ws : List ℕ) (e : Element) (slot : e ≡ slot_in H ws h) (n cap : ℕ) (pn : n ≡ word ws h) (pc : cap ≡ capacity levels) where
  pub root_over : cap < n → false ≡ root_ok H levels h ws
  unfolding root_ok
  root_over l = rw (lt-leb (word ws h) (capacity levels) (omega (arith, pn, pc))) refl

  pub root_none : n ≤ cap → n ≡ 0 → (b : Bool) → b ≡ is_blank e → b ≡ root_ok H levels h ws
  unfolding root_ok
  root_none l z b q =
      rw (le-leb (word ws h) (capacity levels) (omega (arith, pn, pc)), eq-eqb (word ws h) 0 (sym pn ∙ z)) (q ∙ ap is_blank slot ∙ sym (zero_is H ws h))

  pub root-some : n ≤ cap → (n ≡ 0 → ⊥) → (b : Bool) → b ≡ untagged e → not b ≡ root_ok H levels h ws
  unfolding root_ok
  root-some l z b q =
      rw (le-leb (word ws h) (capacity levels) (omega (arith, pn, pc)), ne_eqb (word ws h) 0 (λ y. z (pn ∙ y))) (ap not (q ∙ ap untagged slot) ∙ sym (tagged_is H ws h))
