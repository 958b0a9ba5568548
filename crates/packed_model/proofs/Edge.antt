-- The limits in plain numbers.
use Rattle.laws.specs.Prelude.{List, ◌*◌, ◌+◌, ◌-◌, ◌^◌, ◌∙◌, ◌≡◌, ◌≤◌, ap, arith, length, means-off, number_of, refl, ℕ}
use Rattle.packed_model.proofs.Exactly.{shape-means}
use Rattle.packed_model.proofs.Slice.{size_is}
use Rattle.packed_model.specs.Calls.{cleared}
use Rattle.packed_model.specs.Causes.{Shape}
use Rattle.packed_model.specs.Edge.{Edge}
use Rattle.packed_model.specs.Words.{capacity, extent}

room-is : (levels : ℕ) → capacity levels ≡ 2 ^ levels - 1
unfolding capacity
room-is levels = ap (λ (n : ℕ). n - 1) (size_is levels)

wide_is : (H levels : ℕ) → extent H levels ≡ H + H * (2 ^ levels - 1) * 3
unfolding extent
wide_is H levels = ap (λ (n : ℕ). H + H * n * 3) (room-is levels)

good : (H levels : ℕ) (ws : List ℕ) → Shape H levels (length ws) → number_of (cleared H levels ws).answer ≡ 0
unfolding cleared
good H levels ws s = rw ((shape-means H levels (length ws)).holds s) refl

bad : (H levels : ℕ) (ws : List ℕ) → (Shape H levels (length ws) → ⊥) → number_of (cleared H levels ws).answer ≡ 1
unfolding cleared
bad H levels ws n = rw (means-off (shape-means H levels (length ws)) n) refl

taken : (H levels room words : ℕ) → 2 ^ levels - 1 ≡ room → H + H * room * 3 ≡ words → 1 ≤ H → H ≤ 256 → 1 ≤ levels → H * room ≤ 131071 → Edge H levels room words 0
taken H levels room words p q one most some slots =
    let c : capacity levels ≡ room = room-is levels ∙ p in
    let w : extent H levels ≡ words = wide_is H levels ∙ ap (λ (n : ℕ). H + H * n * 3) p ∙ q in
    record {
      capacity = c;
      wide = w;
      says = λ ws l. good H levels ws (record { one = one; most = most; some = some; slots = rw c slots; slice = rw w l });
    }

refused : (H levels room words : ℕ) → 2 ^ levels - 1 ≡ room → H + H * room * 3 ≡ words → (1 ≤ H → H ≤ 256 → 1 ≤ levels → H * room ≤ 131071 → ⊥) → Edge H levels room words 1
refused H levels room words p q n =
    let c : capacity levels ≡ room = room-is levels ∙ p in
    record {
      capacity = c;
      wide = wide_is H levels ∙ ap (λ (n : ℕ). H + H * n * 3) p ∙ q;
      says = λ ws l. bad H levels ws (λ s. n s.one s.most s.some (rw c at s.slots));
    }

-- "L is at most 17 with 1 heap, 16 with 2, 15 up to 4, .. 9 up to 256", and never 0; H from 1 to 256
pub one-seventeen : Edge 1 17 131071 393214 0
one-seventeen = taken 1 17 131071 393214 refl refl (omega arith) (omega arith) (omega arith) (omega arith)

pub one-eighteen : Edge 1 18 262143 786430 1
one-eighteen = refused 1 18 262143 786430 refl refl (λ a b c d. omega (arith, d))

pub two-sixteen : Edge 2 16 65535 393212 0
two-sixteen = taken 2 16 65535 393212 refl refl (omega arith) (omega arith) (omega arith) (omega arith)

pub three-sixteen : Edge 3 16 65535 589818 1
three-sixteen = refused 3 16 65535 589818 refl refl (λ a b c d. omega (arith, d))

pub four-fifteen : Edge 4 15 32767 393208 0
four-fifteen = taken 4 15 32767 393208 refl refl (omega arith) (omega arith) (omega arith) (omega arith)

pub all-nine : Edge 256 9 511 392704 0
all-nine = taken 256 9 511 392704 refl refl (omega arith) (omega arith) (omega arith) (omega arith)

pub one-too-many : Edge 257 1 1 1028 1
one-too-many = refused 257 1 1 1028 refl refl (λ a b c d. omega (arith, b))

pub no-heap : Edge 0 3 7 0 1
no-heap = refused 0 3 7 0 refl refl (λ a b c d. omega (arith, a))

pub no-level : Edge 5 0 0 5 1
no-level = refused 5 0 0 5 refl refl (λ a b c d. omega (arith, c))
