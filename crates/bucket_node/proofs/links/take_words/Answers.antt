-- `bucket_node::links::take_words` meets its contract.
use Rattle.bucket_model.specs.Prelude.{found_low, found_room}
use Rattle.bucket_node.proofs.Linked.{taken_is}
use Rattle.bucket_node.proofs.links.take_words.Goals as goal

pub returns : goal.returns
returns c = taken_is c.args.k c.args.words.now (found_low c.args.low) _ c.tail_left.ensures
