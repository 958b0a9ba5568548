-- One storey of bits: m words from base on, in which bit j % 64 of word j / 64 is f j. What one bit more or less does to it, and where its lowest set bit is. Every storey is one of these: what f is differs, at the bottom whether something is held, above whether the word below is 0.
use Rattle.laws.specs.Prelude.{List, Upd, ◌%◌, ◌*◌, ◌+◌, ◌-◌, ◌/◌, ◌<◌, ◌^◌, ◌∙◌, ◌≡◌, ◌≤◌, ap, arith, length, length-set, refl, set, suc, sym, zero, ℕ, ℕ_discrete}
use lib.Count.{count_trailing_zeros}
use Rattle.bitmap.specs.Bits.{bit_at, bit-zero, bit-suc, more_same, more-other, more-fits, less-same, less_other, Lowest, lowest}
use Rattle.bucket_model.specs.Prelude.{word}
use Rattle.bucket_model.proofs.Writes.{same, other}

-- 0 of 0, and 1 of any other number
abbrev pub nz : ℕ → ℕ
nz zero = 0
nz (suc k) = 1

pub record Tells (b : List ℕ) (base m : ℕ) (f : ℕ → ℕ) : Type 0 where
  pub long : base + m ≤ length b
  pub fits : (i : ℕ) → i < m → word b (base + i) < 2 ^ 64
  pub bit : (j : ℕ) → j < 64 * m → bit_at (word b (base + j / 64)) (j % 64) ≡ f j

pub nz-zero : (w : ℕ) → nz w ≡ 0 → w ≡ 0
nz-zero zero e = refl
nz-zero (suc w) e = absurd (omega arith)

pub nz-one : (w : ℕ) → 0 < w → nz w ≡ 1
nz-one zero h = absurd (omega arith)
nz-one (suc w) h = refl

-- the function may be told by its values alone
pub storey-ext : (b : List ℕ) (base m : ℕ) (f f' : ℕ → ℕ) → ((j : ℕ) → j < 64 * m → f' j ≡ f j) → Tells b base m f → Tells b base m f'
storey-ext b base m f f' h z = record { long = z.long; fits = z.fits; bit = λ j l. z.bit j l ∙ sym (h j l) }

-- a word of another storey written
pub storey-off : (b : List ℕ) (base m : ℕ) (f : ℕ → ℕ) (a v : ℕ) → ((i : ℕ) → i < m → base + i ≡ a → ⊥) → Tells b base m f → Tells (set b a v) base m f
storey-off b base m f a v h z =
    record {
      long = simp length-set z.long;
      fits = λ i l. rw (other b a v (base + i) (h i l)) (z.fits i l);
      bit = λ j l. ap (λ (w : ℕ). bit_at w (j % 64)) (other b a v (base + j / 64) (h (j / 64) (omega arith))) ∙ z.bit j l;
    }

-- the word of rank j replaced by v, which differs from it in bit j % 64 alone
storey-word : (b : List ℕ) (base m : ℕ) (f f' : ℕ → ℕ) (j v x : ℕ) → j < 64 * m → v < 2 ^ 64 → Upd f f' j x
    → bit_at v (j % 64) ≡ x → ((i : ℕ) → (i ≡ j % 64 → ⊥) → bit_at v i ≡ bit_at (word b (base + j / 64)) i)
    → Tells b base m f → Tells (set b (base + j / 64) v) base m f'
storey-word b base m f f' j v x h v< u e o z = record { long = simp length-set z.long; fits = fit; bit = at }
  where
    inside : base + j / 64 < length b
    inside = omega (arith, z.long)

    fit : (i : ℕ) → i < m → word (set b (base + j / 64) v) (base + i) < 2 ^ 64
    fit i l = elim (ℕ_discrete i (j / 64)) [ yes p ↦ rw (p, same b (base + j / 64) v inside) v< | no p ↦ rw (other b (base + j / 64) v (base + i) (λ q. p (omega arith))) (z.fits i l) ]

    at : (i : ℕ) → i < 64 * m → bit_at (word (set b (base + j / 64) v) (base + i / 64)) (i % 64) ≡ f' i
    at i l = elim (ℕ_discrete (i / 64) (j / 64)) [ yes a ↦ near a | no a ↦ far a ]
      where
        far : (i / 64 ≡ j / 64 → ⊥) → bit_at (word (set b (base + j / 64) v) (base + i / 64)) (i % 64) ≡ f' i
        far a =
            ap (λ (w : ℕ). bit_at w (i % 64)) (other b (base + j / 64) v (base + i / 64) (λ p. a (omega arith))) ∙ z.bit i l
            ∙ sym (u.else i (λ p. a (ap (λ (k : ℕ). k / 64) p)))

        near : i / 64 ≡ j / 64 → bit_at (word (set b (base + j / 64) v) (base + i / 64)) (i % 64) ≡ f' i
        near a =
            ap (λ (k : ℕ). bit_at (word (set b (base + j / 64) v) (base + k)) (i % 64)) a
            ∙ ap (λ (w : ℕ). bit_at w (i % 64)) (same b (base + j / 64) v inside)
            ∙ elim (ℕ_discrete i j) [ yes p ↦ hit p | no p ↦ miss p ]
          where
            hit : i ≡ j → bit_at v (i % 64) ≡ f' i
            hit p = ap (λ (k : ℕ). bit_at v (k % 64)) p ∙ e ∙ sym u.here ∙ ap f' (sym p)

            miss : (i ≡ j → ⊥) → bit_at v (i % 64) ≡ f' i
            miss p =
                o (i % 64) (λ c. p (omega arith)) ∙ ap (λ (k : ℕ). bit_at (word b (base + k)) (i % 64)) (sym a) ∙ z.bit i l ∙ sym (u.else i p)

-- one bit more, one bit less
pub storey-more : (b : List ℕ) (base m : ℕ) (f f' : ℕ → ℕ) (j : ℕ) → j < 64 * m → f j ≡ 0 → Upd f f' j 1
    → Tells b base m f → Tells (set b (base + j / 64) (word b (base + j / 64) + 2 ^ (j % 64))) base m f'
storey-more b base m f f' j h e u z =
    let w = word b (base + j / 64) in
    storey-word b base m f f' j (w + 2 ^ (j % 64)) 1 h (more-fits 64 w (j % 64) (z.fits (j / 64) (omega arith)) (omega arith) (z.bit j h ∙ e)) u (more_same w (j % 64) (z.bit j h ∙ e)) (λ i n. more-other w (j % 64) i (z.bit j h ∙ e) n) z

pub storey-less : (b : List ℕ) (base m : ℕ) (f f' : ℕ → ℕ) (j : ℕ) → j < 64 * m → f j ≡ 1 → Upd f f' j 0
    → Tells b base m f → Tells (set b (base + j / 64) (word b (base + j / 64) - 2 ^ (j % 64))) base m f'
storey-less b base m f f' j h e u z =
    let w = word b (base + j / 64) in
    storey-word b base m f f' j (w - 2 ^ (j % 64)) 0 h (omega (arith, z.fits (j / 64) (omega arith))) u (less-same w (j % 64) (z.bit j h ∙ e)) (λ i n. less_other w (j % 64) i (z.bit j h ∙ e) n) z

-- the lowest set bit of a word that is not 0
pub record Down (f : ℕ → ℕ) (i t : ℕ) : Type 0 where
  pub within : t < 64
  pub here : f (64 * i + t) ≡ 1
  pub below : (u : ℕ) → u < t → f (64 * i + u) ≡ 0

pub storey-down : (b : List ℕ) (base m : ℕ) (f : ℕ → ℕ) (i : ℕ) → i < m → 0 < word b (base + i)
    → Tells b base m f → Down f i (count_trailing_zeros 64 (word b (base + i)))
storey-down b base m f i h p z = record { within = k.within; here = sym (at t k.within) ∙ k.here; below = λ u a. sym (at u (omega (arith, k.within))) ∙ k.below u a }
  where
    t : ℕ
    t = count_trailing_zeros 64 (word b (base + i))

    k : Lowest 64 (word b (base + i)) (count_trailing_zeros 64 (word b (base + i)))
    k = lowest 64 (word b (base + i)) p (z.fits i h)

    at : (u : ℕ) → u < 64 → bit_at (word b (base + i)) u ≡ f (64 * i + u)
    at u a =
        let d : (64 * i + u) / 64 ≡ i = omega arith in
        let r : (64 * i + u) % 64 ≡ u = omega arith in
        rw (d, r) at (z.bit (64 * i + u) (omega arith))

pub zero_bit : (k : ℕ) → bit_at 0 k ≡ 0
zero_bit zero = bit-zero 0
zero_bit (suc k) = bit-suc 0 k ∙ zero_bit k

-- a word that is 0 has no bit set
pub storey-none : (b : List ℕ) (base m : ℕ) (f : ℕ → ℕ) (i : ℕ) → i < m → word b (base + i) ≡ 0 → Tells b base m f → (u : ℕ) → u < 64 → f (64 * i + u) ≡ 0
storey-none b base m f i h e z u a =
    let d : (64 * i + u) / 64 ≡ i = omega arith in
    let r : (64 * i + u) % 64 ≡ u = omega arith in
    let q = rw (d, r, e) at (z.bit (64 * i + u) (omega arith)) in
    sym q ∙ zero_bit u

-- ---- from one storey to the one above it

-- which of a storey's words are not 0: what the storey above has to hold
abbrev pub up : List ℕ → ℕ → ℕ → ℕ
up b base g = nz (word b (base + g))

module _ (b : List ℕ) (base m : ℕ) (f : ℕ → ℕ) (z : Tells b base m f) (j : ℕ) (h : j < 64 * m) where
  inside : base + j / 64 < length b
  inside = omega (arith, z.long)

  pub up_word : (v : ℕ) → Upd (up b base) (up (set b (base + j / 64) v) base) (j / 64) (nz v)
  up_word v =
      record {
        here = ap nz (same b (base + j / 64) v inside);
        else = λ g n. ap nz (other b (base + j / 64) v (base + g) (λ e. n (omega arith)));
      }
