-- `bucket_step::tests::some_held` meets its contract.
use Rattle.bucket_step.proofs.Read.{some-whole}
use Rattle.bucket_step.proofs.tests.some_held.Goals as goal

pub returns : goal.returns
returns c = some-whole c.args.top c.args.free c.args.held c.args.n
