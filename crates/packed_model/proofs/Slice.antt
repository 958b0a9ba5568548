-- Where the words stand, in the rules' numbers: 2^d, the slot of a position, the words of a slot.
use Rattle.laws.specs.Prelude.{Bool, ◌*◌, ◌+◌, ◌-◌, ◌<◌, ◌^◌, ◌≡◌, ◌≤◌, ap, arith, cond, false, leb, leb-false, leb-true, pow-suc, refl, suc, true, zero, ℕ}
use Rattle.packed_model.specs.Node.{size, side_if, turn_of, rest_of}
use Rattle.packed_model.specs.Words.{child, slot_at}
use Rattle.packed_model.proofs.Tests.{size-pos}

pub size_is : (d : ℕ) → size d ≡ 2 ^ d
unfolding size
size_is zero = refl
size_is (suc d) = omega (arith, size_is d, pow-suc 2 d)

-- "slot m of the whole store (level k begins at H(2^(k−1) − 1))", "node n = h 2^(k−1) + (i − 2^(k−1))": with d = k − 1 and i = 2^d + r
pub slot-by : (H m d r : ℕ) → r < size d → slot_at H m d r + H ≡ m * size d + H * size d + r
unfolding slot_at size turn_of rest_of
slot-by H m zero r l = omega arith
slot-by H m (suc e) r l = go (leb (size e) r) refl (λ c j. slot-by H c e j)
  where
    go : (b : Bool) → leb (size e) r ≡ b → ((c j : ℕ) → j < size e → slot_at H c e j + H ≡ c * size e + H * size e + j)
        → slot_at H (child H m (side_if b)) e (cond b (r - size e) r) + H ≡ m * (size e + size e) + H * (size e + size e) + r
    go true t ih = let q : size e ≤ r = leb-true (size e) r t in omega (arith, q, ih (m + m + H + 1) (r - size e) (omega (arith, q, l)))
    go false t ih = omega (arith, ih (m + m + H) r (leb-false (size e) r t))

pub slot_is : (H h d r : ℕ) → r < size d → slot_at H h d r ≡ H * (2 ^ d - 1) + (h * 2 ^ d + r)
slot_is H h d r l = go (2 ^ d) (size_is d) (slot-by H h d r l) (size-pos d)
  where
    go : (p : ℕ) → size d ≡ p → slot_at H h d r + H ≡ h * size d + H * size d + r → 0 < size d → slot_at H h d r ≡ H * (p - 1) + (h * p + r)
    go zero e f z = absurd (omega (arith, e, z))
    go (suc p) e f z =
        let y : suc p - 1 ≡ p = omega arith in
        let a : h * size d ≡ h * suc p = ap (λ (x : ℕ). h * x) e in
        let b : H * size d ≡ H * suc p = ap (λ (x : ℕ). H * x) e in
        rw y (omega (arith, f, a, b))
