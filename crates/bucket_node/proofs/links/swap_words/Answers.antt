-- `bucket_node::links::swap_words` meets its contract.
use Rattle.bucket_model.specs.Prelude.{found_low, found_room}
use Rattle.bucket_node.proofs.Linked.{swapped-is}
use Rattle.bucket_node.proofs.links.swap_words.Goals as goal

pub returns : goal.returns
returns c = swapped-is c.args.k c.args.words.now (found_low c.args.low) c.args.e (found_room c.args.to) _ _ c.requires c.tail_left.ensures c.link_at-link.ensures.is
