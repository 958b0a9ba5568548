-- `bucket_node::wipe_lists` meets its contract.
use Rattle.laws.specs.Prelude.{◌*◌, ◌+◌, ◌≡◌}
use Rattle.bucket_model.specs.Prelude.{blank_word, fill, node_words}
use Rattle.bucket_node.proofs.wipe_lists.Given as goal

abbrev pub invariant-loop-link : goal.invariant-loop-link
invariant-loop-link l = (l.words ≡ fill (blank_word l.k) l.node l.fn.words) × (l.node ≡ l.k.stem + node_words * l.link)
