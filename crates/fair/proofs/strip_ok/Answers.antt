-- `fair::strip_ok` meets its contract.
use Rattle.laws.specs.Prelude.{refl}
use Rattle.fair_model.specs.Calls.{strip_ok}
use Rattle.fair.proofs.strip_ok.Goals as goal

pub returns : goal.returns
unfolding strip_ok
returns c = refl
