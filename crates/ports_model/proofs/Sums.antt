-- Sums over all ports where one part has changed, and sums compared part by part.
use Rattle.laws.specs.Prelude.{Upd, ◌+◌, ◌<◌, ◌≡◌, ◌≤◌, arith, le_of_suc-le-suc, not-suc-le-zero, suc, sum_to, to-ext, zero, ℕ}

pub to-upd : (n : ℕ) (g g' : ℕ → ℕ) (p v : ℕ) → Upd g g' p v → p < n → sum_to n g' + g p ≡ sum_to n g + v
unfolding sum_to
to-upd zero g g' p v u h = absurd (not-suc-le-zero h)
to-upd (suc n) g g' zero v u h =
    omega (arith, u.here, to-ext n (λ i. g' (suc i)) (λ i. g (suc i)) (λ i l. u.else (suc i) (λ e. omega arith)))
to-upd (suc n) g g' (suc p) v u h =
    let ih = to-upd n (λ i. g (suc i)) (λ i. g' (suc i)) p v (record { here = u.here; else = λ j d. u.else (suc j) (λ e. d (omega arith)) }) (le_of_suc-le-suc h) in
    omega (arith, u.else 0 (λ e. omega arith))

pub to_le : (n : ℕ) (g f : ℕ → ℕ) → ((i : ℕ) → i < n → g i ≤ f i) → sum_to n g ≤ sum_to n f
unfolding sum_to
to_le zero g f h = omega arith
to_le (suc n) g f h = omega (arith, h 0 (omega arith), to_le n (λ i. g (suc i)) (λ i. f (suc i)) (λ i l. h (suc i) (omega arith)))

-- .. and one part strictly below
pub to-lt : (n : ℕ) (g f : ℕ → ℕ) (p : ℕ) → ((i : ℕ) → i < n → g i ≤ f i) → p < n → g p < f p → sum_to n g < sum_to n f
unfolding sum_to
to-lt zero g f p h l e = absurd (not-suc-le-zero l)
to-lt (suc n) g f zero h l e = omega (arith, to_le n (λ i. g (suc i)) (λ i. f (suc i)) (λ i l. h (suc i) (omega arith)))
to-lt (suc n) g f (suc p) h l e =
    omega (arith, h 0 (omega arith), to-lt n (λ i. g (suc i)) (λ i. f (suc i)) p (λ i l. h (suc i) (omega arith)) (le_of_suc-le-suc l) e)

-- one part is no more than the sum
pub to_part : (n : ℕ) (g : ℕ → ℕ) (p : ℕ) → p < n → g p ≤ sum_to n g
unfolding sum_to
to_part zero g p h = absurd (not-suc-le-zero h)
to_part (suc n) g zero h = omega arith
to_part (suc n) g (suc p) h = omega (arith, to_part n (λ i. g (suc i)) p (le_of_suc-le-suc h))
