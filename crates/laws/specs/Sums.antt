-- Sums over the numbers below n, and over a grid, row by row.
use Rattle.std.specs.Prelude.{◌*◌, ◌+◌, ◌<◌, suc, zero, ℕ, [], ◌∷◌, List, ◌≡◌, refl, get_or, length}
use Rattle.std.proofs.Common.{suc-add, zero-add, zero-mul, arith, ◌∙◌, ap, sym}
use Rattle.laws.specs.Lists.{sum_of}

unfoldable pub sum_to : ℕ → (ℕ → ℕ) → ℕ
sum_to zero g = 0
sum_to (suc n) g = g 0 + sum_to n (λ i. g (suc i))

pub to-ext : (n : ℕ) (g h : ℕ → ℕ) → ((i : ℕ) → i < n → g i ≡ h i) → sum_to n g ≡ sum_to n h
unfolding sum_to
to-ext zero g h e = refl
to-ext (suc n) g h e = omega (arith, e 0 (omega arith), to-ext n (λ i. g (suc i)) (λ i. h (suc i)) (λ i l. e (suc i) (omega arith)))

pub to-zero : (n : ℕ) → sum_to n (λ i. 0) ≡ 0
unfolding sum_to
to-zero zero = refl
to-zero (suc n) = omega (arith, to-zero n)

pub to-add : (n : ℕ) (g h : ℕ → ℕ) → sum_to n (λ i. g i + h i) ≡ sum_to n g + sum_to n h
unfolding sum_to
to-add zero g h = refl
to-add (suc n) g h = omega (arith, to-add n (λ i. g (suc i)) (λ i. h (suc i)))

pub to-append : (a b : ℕ) (g : ℕ → ℕ) → sum_to (a + b) g ≡ sum_to a g + sum_to b (λ i. g (a + i))
unfolding sum_to
to-append zero b g = rw zero-add (to-ext b g (λ i. g (0 + i)) (λ i l. ap g (sym (zero-add i))) ∙ sym (zero-add (sum_to b (λ i. g (0 + i)))))
to-append (suc a) b g = rw suc-add (omega (arith, to-append a b (λ i. g (suc i)), to-ext b (λ i. g (suc (a + i))) (λ i. g (suc a + i)) (λ i l. ap g (sym (suc-add a i)))))

-- a grid, row by row
pub grid : (c m : ℕ) (g : ℕ → ℕ) → sum_to c (λ n. sum_to m (λ j. g (n * m + j))) ≡ sum_to (c * m) g
unfolding sum_to
grid zero m g = rw zero-mul
grid (suc c) m g =
    let e₀ : sum_to m (λ j. g (0 * m + j)) ≡ sum_to m g = to-ext m (λ j. g (0 * m + j)) g (λ j l. ap g (omega arith)) in
    let e₁ : sum_to c (λ n. sum_to m (λ j. g (suc n * m + j))) ≡ sum_to c (λ n. sum_to m (λ j. g (m + (n * m + j)))) =
    to-ext c (λ n. sum_to m (λ j. g (suc n * m + j))) (λ n. sum_to m (λ j. g (m + (n * m + j)))) (λ n l. to-ext m (λ j. g (suc n * m + j)) (λ j. g (m + (n * m + j))) (λ j l. ap g (omega arith))) in
    let e₂ : suc c * m ≡ m + c * m = omega arith in
    rw e₂ (omega (arith, e₀, e₁, grid c m (λ i. g (m + i)), to-append m (c * m) g))

-- a list's sum by its places
pub sum-index : {A : Type 0} (g : A → ℕ) (l : List A) (d : A) → sum_of g l ≡ sum_to (length l) (λ i. g (get_or l i d))
unfolding sum_of sum_to
sum-index g [] d = refl
sum-index g (a ∷ l) d = omega (arith, sum-index g l d)
