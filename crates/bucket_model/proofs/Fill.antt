-- A list filled from the front, one store a turn.
use Rattle.std.proofs.Common.{◌++◌, drop, replicate}
use Rattle.laws.specs.Prelude.{List, [], ◌+◌, ◌<◌, ◌∙◌, ◌∷◌, ◌≡◌, ◌≤◌, add-one, add-zero, ap, arith, le_of_suc-le-suc, length, not-suc-le-zero, refl, set, suc, sym, zero, ℕ}
use Rattle.bucket_model.specs.Prelude.{fill, fill_from, word}

-- one store more
from_step : (f : ℕ → ℕ) (i k : ℕ) (s : List ℕ) → k < length s → set (fill_from f i k s) k (f (i + k)) ≡ fill_from f i (suc k) s
from_step f i zero [] h = absurd (not-suc-le-zero h)
from_step f i zero (x ∷ xs) h = ap (λ (v : ℕ). f v ∷ xs) (add-zero i)
from_step f i (suc k) [] h = absurd (not-suc-le-zero h)
from_step f i (suc k) (x ∷ xs) h =
    ap (λ (l : List ℕ). f i ∷ l)
    (ap (λ (v : ℕ). set (fill_from f (suc i) k xs) k (f v)) (omega arith) ∙ from_step f (suc i) k xs (le_of_suc-le-suc h))

pub fill_step : (f : ℕ → ℕ) (k : ℕ) (s : List ℕ) → k < length s → set (fill f k s) k (f k) ≡ fill f (k + 1) s
unfolding fill
fill_step f k s h =
    ap (λ (v : ℕ). set (fill_from f 0 k s) k (f v)) (omega arith) ∙ from_step f 0 k s h ∙ ap (λ (v : ℕ). fill_from f 0 v s) (sym (add-one k))

pub fill_none : (f : ℕ → ℕ) (s : List ℕ) → s ≡ fill f 0 s
unfolding fill
fill_none f s = refl

from-length : (f : ℕ → ℕ) (i k : ℕ) (s : List ℕ) → length (fill_from f i k s) ≡ length s
from-length f i zero s = refl
from-length f i (suc k) [] = refl
from-length f i (suc k) (x ∷ xs) = ap suc (from-length f (suc i) k xs)

pub fill-length : (f : ℕ → ℕ) (k : ℕ) (s : List ℕ) → length (fill f k s) ≡ length s
unfolding fill
fill-length f k s = from-length f 0 k s

from_at : (f : ℕ → ℕ) (i k : ℕ) (s : List ℕ) (j : ℕ) → j < k → k ≤ length s → word (fill_from f i k s) j ≡ f (i + j)
from_at f i zero s j h l = absurd (not-suc-le-zero h)
from_at f i (suc k) [] j h l = absurd (not-suc-le-zero l)
from_at f i (suc k) (x ∷ xs) zero h l = ap f (sym (add-zero i))
from_at f i (suc k) (x ∷ xs) (suc j) h l = from_at f (suc i) k xs j (le_of_suc-le-suc h) (le_of_suc-le-suc l) ∙ ap f (omega arith)

-- word j of a filled list
pub fill-at : (f : ℕ → ℕ) (k : ℕ) (s : List ℕ) (j : ℕ) → j < k → k ≤ length s → word (fill f k s) j ≡ f j
unfolding fill
fill-at f k s j h l = from_at f 0 k s j h l ∙ ap f (omega arith)

-- zeros in front of what was there behind them
pub from-zeros : (i k : ℕ) (s : List ℕ) → k ≤ length s → replicate k 0 ++ drop k s ≡ fill_from (λ j. 0) i k s
from-zeros i zero s h = refl
from-zeros i (suc k) [] h = absurd (not-suc-le-zero h)
from-zeros i (suc k) (x ∷ xs) h = ap (λ (l : List ℕ). 0 ∷ l) (from-zeros (suc i) k xs (le_of_suc-le-suc h))

pub fill-zeros : (k : ℕ) (s : List ℕ) → k ≤ length s → replicate k 0 ++ drop k s ≡ fill (λ j. 0) k s
unfolding fill
fill-zeros k s h = from-zeros 0 k s h
