-- `bucket_step::tests::whole` meets its contract.
use Rattle.laws.specs.Prelude.{refl}
use Rattle.bucket_model.specs.Prelude.{whole_ok}
use Rattle.bucket_step.proofs.tests.whole.Goals as goal

pub returns : goal.returns
unfolding whole_ok
returns c = refl
