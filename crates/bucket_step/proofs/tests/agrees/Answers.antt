-- `bucket_step::tests::agrees` meets its contract.
use Rattle.laws.specs.Prelude.{◌∙◌}
use Rattle.bucket_step.proofs.Read.{agreed-now}
use Rattle.bucket_step.proofs.tests.agrees.Goals as goal

pub returns : goal.returns
returns c = c.is_some.ensures ∙ agreed-now c.args.k c.args.bits.now c.args.rank c.args.empty c.args.rank _ c.agreement.ensures
