-- The laws of `tree_model` that other crates use, passed on.
pub use Rattle.tree_model.proofs.Acts.{sub-sound}
pub use Rattle.tree_model.proofs.Agreement.{levels-words, place_of, same-words, words-node, words-slot}
pub use Rattle.tree_model.proofs.Cases.{case-length-answers, case-lengths}
pub use Rattle.tree_model.proofs.Choice.{all-slot_at, empty-found, every-all, filled, first-unique, least-empty, least-full, least-in, least-unique, lowest-is, lowest-none, lowest-unique, none-empty, void}
pub use Rattle.tree_model.proofs.Edge.{eight-four, eight-past, eight-taken, four-past, four-six, four-taken, none-refused, three-refused, two-eleven, two_past, two-taken}
pub use Rattle.tree_model.proofs.Exactly.{barred, called-bad, called-fine, called-root, called-way, exactly, is-shape, kind, node-fails, nothing-fails, order-few, order-pos, room-fails, room-less, root-limit, shape_is, shape-means, slot-limit, words-none, work-fails}
pub use Rattle.tree_model.proofs.Hang.{act-none, below_less, hang-at, past, root-commutes, slots-hang}
pub use Rattle.tree_model.proofs.Lengths.{Apart, apart-answer, apart_next, apart-start}
pub use Rattle.tree_model.proofs.Many.{fit-lower, length-slots, many-held, not_lower, own-suc, own-zero, slot-at, sum-counts}
pub use Rattle.tree_model.proofs.Nothing.{apply-none, is_none, op-work, step-none, work_none}
pub use Rattle.tree_model.proofs.Path.{no-sum, path-none, root-path}
pub use Rattle.tree_model.proofs.Place.{above-one, fine-here, least-room, move-here, place_here, rest-here, room-deep, write-here}
pub use Rattle.tree_model.proofs.Promises.{Kept, call-sum, called-kept, is-queue, kept-called, kept-held, kept-least, kept-numbers, kept-replaces, kept-sum, kept-sums, kept-undamaged, leaves_kept, past-stands, root-node, sound-root, sound-way, start-empty, start-kept, stored-holding, tagged}
pub use Rattle.tree_model.proofs.Rules.{comes, put-rule, swap-rule, take-rule}
pub use Rattle.tree_model.proofs.Serve.{length-hang}
pub use Rattle.tree_model.proofs.Slice.{capacity, clear-zeroes, level-lies, level-wide, lies}
pub use Rattle.tree_model.proofs.Tags.{rule-tag}
pub use Rattle.tree_model.proofs.Unread.{same-levels, same-root}
pub use Rattle.tree_model.proofs.Words.{all-tab, apply-length, apply-write, has-sum, length-tab, level-ext, level-length, level-node, levels-before, node-length, node-slot, place_inside, size_room, slot-path, some-sum, step-before, step-length, step_past, step_words_lem, words-apply, write-length}
