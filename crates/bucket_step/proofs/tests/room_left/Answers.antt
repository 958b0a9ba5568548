-- `bucket_step::tests::room_left` meets its contract.
use Rattle.bucket_step.proofs.Read.{room_whole}
use Rattle.bucket_step.proofs.tests.room_left.Goals as goal

pub returns : goal.returns
returns c = room_whole c.args.top c.args.free c.args.held c.args.n
