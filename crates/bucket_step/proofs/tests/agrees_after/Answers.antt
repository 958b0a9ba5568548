-- `bucket_step::tests::agrees_after` meets its contract.
use Rattle.bucket_model.specs.Prelude.{found_low}
use Rattle.bucket_step.proofs.Read.{agreed-not, agreed-then}
use Rattle.bucket_step.proofs.tests.agrees_after.Goals as goal

pub returns-in-None : goal.returns-in-None
returns-in-None c = agreed-not c.args.k c.args.bits.now (found_low c.args.low) c.args.rank c.args.empty c.args.held c.in-None.ensures

pub returns-in-Some : goal.returns-in-Some
returns-in-Some c = agreed-then c.args.k c.args.bits.now (found_low c.args.low) c.args.rank c.args.empty c.args.held _ c.in-Some.ensures
