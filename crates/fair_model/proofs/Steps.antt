-- The table of steps in plain numbers has the quotient rule: one test, computed over the whole table, and what it says of each entry.
use Rattle.laws.specs.Prelude.{Bool, ◌-◌, ◌<◌, ◌∙◌, ◌≡◌, ◌≤◌, ap, arith, eqb, get_or, length, refl, suc, ℕ}
use lib.Dec.{eqb→eq, T}
use Rattle.fair_model.specs.Ranks.{step}
use Rattle.fair_model.specs.Steps.{step_table}
use Rattle.fair_model.proofs.Table.{at, every}

-- entry i is for weight i + 1
abbrev right : ℕ → ℕ → Bool
right i x = eqb x (step (suc i))

pub table-length : length step_table ≡ 1024
unfolding step_table
table-length = refl

tested : T (every right 0 step_table)
unfolding step_table step
tested = tt

-- STEPS: entry w − 1 is the step of weight w
pub steps-right : (w : ℕ) → 1 ≤ w → w ≤ 1024 → get_or step_table (w - 1) 0 ≡ step w
steps-right w lo hi =
    let h : w - 1 < length step_table = omega (arith, table-length) in
    let f : suc (w - 1) ≡ w = omega arith in
    eqb→eq (get_or step_table (w - 1) 0) (step (suc (w - 1))) (at right step_table tested (w - 1) h) ∙ ap step f
