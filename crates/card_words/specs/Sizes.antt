-- How many words a store needs, so that a caller can allocate it: the least length that the calls take, and 0 for a bad shape.
use Rattle.std.specs.Prelude.{◌*◌}
use Rattle.laws.specs.Prelude.{cond, ℕ}
use Rattle.bucket_model.specs.Checks as bucket
use Rattle.bucket_model.specs.Prelude.{bit_words, queue, store_words}
use Rattle.cluster_model.specs.Calls as cluster
use Rattle.cluster_model.specs.Prelude.{extent}
use Rattle.tree_model.specs.Calls as tree
use Rattle.tree_model.specs.Prelude.{room, slot_words}

-- a tree of this order and these levels: four words a slot
unfoldable pub tree_words : ℕ → ℕ → ℕ
tree_words m levels = cond (tree.shape_ok m levels (slot_words * room m levels)) (slot_words * room m levels) 0

-- a cluster heap of K places a node and these levels: two counts a node, four words a place
unfoldable pub cluster_words : ℕ → ℕ → ℕ
cluster_words K levels = cond (cluster.shape_ok K levels (extent K levels 1)) (extent K levels 1) 0

-- a bucket queue of d storeys: its words of 64 bits, as many whatever the nodes, and its words of 32 bits for n nodes
unfoldable pub bucket_bits : ℕ → ℕ
bucket_bits d = cond (bucket.depth_ok d) (bit_words (queue d 0)) 0

unfoldable pub bucket_words : ℕ → ℕ → ℕ
bucket_words d n = cond (bucket.shape_ok (queue d n) (bit_words (queue d n)) (store_words (queue d n))) (store_words (queue d n)) 0
