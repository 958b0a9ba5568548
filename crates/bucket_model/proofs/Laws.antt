-- The laws of `bucket_model` that other crates use, passed on.
pub use Rattle.bucket_model.proofs.Chain.{Chain, Mine, Node, Seg}
pub use Rattle.bucket_model.proofs.Clear.{blank-from, fresh-blank, fresh-free, fresh-linked, fresh-list, fresh_own, fresh_q}
pub use Rattle.bucket_model.proofs.Exactly.{said, tag-means}
pub use Rattle.bucket_model.proofs.Facts.{agree-means, clear-means, join-means, low-is, low-rank, pop-means, pop-way, shape-means, whole-means}
pub use Rattle.bucket_model.proofs.Fill.{fill-at, fill-length, fill_none, fill_step, fill-zeros, from-zeros}
pub use Rattle.bucket_model.proofs.Joined.{joined-foreign}
pub use Rattle.bucket_model.proofs.Linked.{Linked, last_from, last_link}
pub use Rattle.bucket_model.proofs.Order.{order-else, order-none}
pub use Rattle.bucket_model.proofs.Places.{Right, right-three, right-two}
pub use Rattle.bucket_model.proofs.Pop.{Popped, pops, taken-bits-length, taken-length}
pub use Rattle.bucket_model.proofs.Promises.{answers, plain-sane, queue-laid}
pub use Rattle.bucket_model.proofs.Push.{Pushed, joined-bits-length, joined_length, pushes}
pub use Rattle.bucket_model.proofs.Queue.{Holds, HoldsIn, NoLoads, Seat, alone, area, chain_of, flag, free-le, free-none, laid_of, lane-le, loads, pow-pos64, shaped-after, top-held, whole}
pub use Rattle.bucket_model.proofs.Returns.{clear-bad, clear-done, either, held-bad, held-told, held-torn, pop-bad, pop-limit, pop-out, pop-unfit, push-bad, push-done, push-limit, push-newcomer, push-unfit, replace-bad, replace-limit, replace-newcomer, replace-out, replace-shut, replace-unfit}
pub use Rattle.bucket_model.proofs.Runs.{calls, lane-is, pop-is, push-is, room-again, stored_is, swap_is, walks}
pub use Rattle.bucket_model.proofs.Served.{answer_of, least-out, none-brings, none-lower, served-holds, served-least, sums}
pub use Rattle.bucket_model.proofs.Shown.{shown-in}
pub use Rattle.bucket_model.proofs.Sorted.{Kept, Through, insert_all, insert-length, insert-rank, insert-sorted, plain-kept, rank-append, through-none, through-step, times-append}
pub use Rattle.bucket_model.proofs.Spare.{free-lengths, free-many, free-tags}
pub use Rattle.bucket_model.proofs.Swapped.{swapped}
pub use Rattle.bucket_model.proofs.Taken.{Foreign, free-after, head-else, head-own, held_after, next-else, next-own, tail-else, tail-own, taken-foreign}
pub use Rattle.bucket_model.proofs.Tells.{Down, Tells, nz, nz-one, nz-zero, storey-down, storey-ext, storey-less, storey-more, storey-none, storey-off, up, zero_bit}
pub use Rattle.bucket_model.proofs.Tower.{Bits, Outside, Ranks, Shape, Tower, bits-from, deeper, edit-off, past_all, ranks-ext, ranks-keep, ranks-same, shape-from, tells-same, tower-ext}
pub use Rattle.bucket_model.proofs.Unread.{Covers, Has, after-agrees, alike-cond, given-same, has-taken, has-taken-bits, join-same, low_same, pop-found-same, push-found-same, room-same, standing, top-same}
pub use Rattle.bucket_model.proofs.Untouched.{fill-past, joined-bits-away, low-head, low-lt, taken-bits-away}
pub use Rattle.bucket_model.proofs.Writes.{other, same, write-length, write-other}
