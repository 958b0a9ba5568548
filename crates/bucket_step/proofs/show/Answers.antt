-- `bucket_step::show` meets its contract.
use Rattle.bucket_model.specs.Prelude.{found_room}
use Rattle.bucket_step.proofs.Steps.{joined_is}
use Rattle.bucket_step.proofs.show.Goals as goal

pub returns : goal.returns
returns c = joined_is c.args.k c.args.bits.now _ c.args.e (found_room c.args.to) c.signal.ensures
