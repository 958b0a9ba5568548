-- `bucket_node::links::join_words` meets its contract.
use Rattle.bucket_model.specs.Prelude.{found_low, found_room}
use Rattle.bucket_node.proofs.Linked.{joined_is}
use Rattle.bucket_node.proofs.links.join_words.Goals as goal

pub returns : goal.returns
returns c = joined_is c.args.k c.args.words.now c.args.e (found_room c.args.to) _ c.link_at-link.ensures.is
