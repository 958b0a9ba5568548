-- The counts' places in plain numbers.
use Rattle.laws.specs.Prelude.{arith, refl, ℕ}
use Rattle.bucket_clock_model.specs.Desk.{fresh}
use Rattle.bucket_clock_model.specs.Pipe.{lead}
use Rattle.bucket_clock_model.specs.Promise.{CountsLie}

pub counts-lie : (n : ℕ) → CountsLie n
unfolding lead fresh
counts-lie n =
    record {
      top = λ b. omega arith;
      second = λ g u. omega arith;
      lowest = λ r. omega arith;
      two = refl;
      three = refl;
      digits = λ a b c h i j. (omega arith, omega arith, refl);
      records = refl;
    }
