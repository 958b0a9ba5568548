-- A strip's finish in numbers.
use Rattle.laws.specs.Prelude.{max, refl, ◌*◌, ◌+◌, ◌≡◌, ℕ}
use Rattle.fair_model.specs.Ranks.{cells, finish, step}

pub finish-is : (c l w n : ℕ) → finish c l w n ≡ max c l + cells n * step w
unfolding finish
finish-is c l w n = refl
