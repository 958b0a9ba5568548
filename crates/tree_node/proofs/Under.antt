-- The room below the next level's slots.
use Rattle.laws.specs.Prelude.{◌*◌, ◌+◌, ◌-◌, ◌/◌, ◌<◌, ◌∙◌, ◌≡◌, ap, ap₂, arith, suc, sym, zero, zero-add, ℕ}
use native.Mathlib.Nat.{add-mul-div_right, div-eq_of_lt, mul_comm, mul-suc}
use Rattle.tree_node.specs.Room.{RoomUnder}
use Rattle.tree_model.specs.Prelude.{room}

pub under-div : (m r q : ℕ) → 0 < m → r ≡ m * suc q → (r - 1) / m ≡ q
under-div m r q h e =
    let s : r - 1 ≡ (m - 1) + q * m = omega (arith, mul-suc m q, mul_comm m q) in
    ap (λ (n : ℕ). n / m) s ∙ add-mul-div_right (m - 1) q h ∙ ap (λ (n : ℕ). n + q) (div-eq_of_lt (omega arith)) ∙ zero-add q

-- the room below a slot of the next level
pub under_is : (m d r others : ℕ) → 0 < m → m ≡ d → others ≡ r - 1 → RoomUnder m r (others / d)
unfolding room
under_is m d r others h s o zero e = let z : others ≡ 0 = omega arith in ap₂ (λ (n d : ℕ). n / d) z (sym s) ∙ div-eq_of_lt h
under_is m d r others h s o (suc k) e = ap₂ (λ (n d : ℕ). n / d) o (sym s) ∙ under-div m r (room m k) h e
