-- For the leaves: powers.
use Rattle.laws.specs.Prelude.{◌%◌, ◌*◌, ◌^◌, ◌∙◌, ◌≡◌, ◌≤◌, arith, sym, ℕ}
use native.Mathlib.Nat.{one-mul}
use lib.Dec.{lit<}
use Rattle.packed_model.specs.Node.{size}
use Rattle.packed_model.proofs.Slice.{size_is}
use lib.Pow.{shl_exact}

pub shift_is : (k : ℕ) → k ≤ 17 → 1 * 2 ^ k % 2 ^ 64 ≡ size k
shift_is k h = shl_exact 1 k 64 (lit< tt) (omega arith) ∙ one-mul (2 ^ k) ∙ sym (size_is k)
