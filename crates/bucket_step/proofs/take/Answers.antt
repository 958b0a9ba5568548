-- `bucket_step::take` meets its contract.
use Rattle.bucket_model.specs.Prelude.{found_low}
use Rattle.bucket_step.proofs.Steps.{taken_is}
use Rattle.bucket_step.proofs.take.Goals as goal

pub returns : goal.returns
returns c = (taken_is c.args.k c.args.bits.now _ (found_low c.args.low) c.signal.ensures, c.take_words.ensures)
