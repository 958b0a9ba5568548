-- One pass over the counts.
use Rattle.laws.specs.Prelude.{Bool, List, ◌&&◌, ◌+◌, ◌∙◌, ◌≡◌, add-one, ap, ap₂, leb, refl, true, ℕ}
use Rattle.lines_model.specs.Layout.{word}
use Rattle.lines_model.specs.Rules.{counts_below, total}
use Rattle.lines_work.specs.Work.{Totals, totals}

pub below_none : (most : ℕ) (c : ℕ → ℕ) → true ≡ counts_below most c 0
unfolding counts_below
below_none most c = refl

pub total-none : (c : ℕ → ℕ) → 0 ≡ total c 0
unfolding total
total-none c = refl

pub below_next : (most : ℕ) (c : ℕ → ℕ) (i : ℕ) (ok : Bool) → ok ≡ counts_below most c i → (ok && leb (c i) most) ≡ counts_below most c (i + 1)
unfolding counts_below
below_next most c i ok e = rw add-one (ap (λ (b : Bool). b && leb (c i) most) e)

pub total-next : (c : ℕ → ℕ) (i sum : ℕ) → sum ≡ total c i → sum + c i ≡ total c (i + 1)
unfolding total
total-next c i sum e = rw add-one (ap (λ (n : ℕ). n + c i) e)

pub totals-is : (w : List ℕ) (n most i : ℕ) (ok : Bool) (sum : ℕ) → i ≡ n → ok ≡ counts_below most (word w) i → sum ≡ total (word w) i → ◌≡◌ {A = Totals} (record { ok = ok; sum = sum }) (totals w n most)
unfolding totals
totals-is w n most i ok sum e p q =
    ap₂ (λ (b : Bool) (x : ℕ). record { ok = b; sum = x }) (p ∙ ap (counts_below most (word w)) e) (q ∙ ap (total (word w)) e)
