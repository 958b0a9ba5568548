-- `strip::is_blank` meets its contract.
use mathlib.Core.Path.{refl}
use Rattle.strip.specs.Words.{is_blank}
use Rattle.strip.proofs.is_blank.Goals as goal

pub returns : goal.returns
unfolding is_blank
returns c = refl
