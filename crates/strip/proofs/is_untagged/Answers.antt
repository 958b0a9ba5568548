-- `strip::is_untagged` meets its contract.
use mathlib.Core.Path.{refl}
use Rattle.strip.specs.Answers.{untagged}
use Rattle.strip.proofs.is_untagged.Goals as goal

pub returns : goal.returns
unfolding untagged
returns c = refl
