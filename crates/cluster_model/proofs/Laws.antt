-- The laws of `cluster_model` that other crates use, passed on.
pub use Rattle.cluster_model.proofs.Cases.{case-cluster, case-cluster-answers}
pub use Rattle.cluster_model.proofs.Damages.{below_fails, fails_by, fails-ltb, is-shape, room-fails, shape_is, shape-means, some-fails, to-fails}
pub use Rattle.cluster_model.proofs.Exactly.{called-bad, called-fine, called-root, cleared-fine, root-limit}
pub use Rattle.cluster_model.proofs.Heap.{ask}
pub use Rattle.cluster_model.proofs.Levels.{child-op, op-none, op_if, twice, twice-suc}
pub use Rattle.cluster_model.proofs.Neat.{few_words, neat-row, neat-test, no_words, set_word}
pub use Rattle.cluster_model.proofs.NeatLevels.{node-written, touch-written, zero_row}
pub use Rattle.cluster_model.proofs.Pass.{begin-length, finish-length, node-count, node-length, node-only, node-read, touch-length, touch-only, touch-read}
pub use Rattle.cluster_model.proofs.Places.{above_of, gap-has, high_is, hit-le, inside-le, inside-length, inside-put, low-is, low-least, no-free, not-above, place_here, place-hit, place_other, place_same, under-mono}
pub use Rattle.cluster_model.proofs.Promises.{clear-zeroes, start-empty, start-kept}
pub use Rattle.cluster_model.proofs.Rules.{comes, lower-is, lowest-is}
pub use Rattle.cluster_model.proofs.Serve.{can-do, moves}
pub use Rattle.cluster_model.proofs.Slice.{node-total, slice}
pub use Rattle.cluster_model.proofs.Step.{Finishes, IsBag, Least, begins, children-can, finishes, keeps, low-fit}
pub use Rattle.cluster_model.proofs.Stored.{stored-many}
pub use Rattle.cluster_model.proofs.Unread.{Alike, Under, like-touch, root-fits, same-neat, same-node}
pub use Rattle.cluster_model.proofs.Ways.{neat-to, or-not}
pub use Rattle.cluster_model.proofs.Words.{node-local}
