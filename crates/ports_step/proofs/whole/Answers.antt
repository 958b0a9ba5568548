-- `ports_step::whole` meets its contract.
use Rattle.laws.specs.Prelude.{refl}
use Rattle.ports_model.specs.Prelude.{whole_ok}
use Rattle.ports_step.proofs.whole.Goals as goal

pub returns : goal.returns
unfolding whole_ok
returns c = refl
