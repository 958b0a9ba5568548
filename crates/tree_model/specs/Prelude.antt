-- What others take in of `tree_model`'s definitions, passed on.
unfoldable pub use Rattle.tree_model.specs.Calls.{called, cleared, held_count, order_ok, rule, shape_ok}
pub use Rattle.tree_model.specs.Calls.{Outcome, Ruling, op_of, outcome, root_of, root_ok, rule_at, ruling, slot_limit, tree, way_ok}
unfoldable pub use Rattle.tree_model.specs.Cases.{case_length_answers, case_lengths, case_orders}
pub use Rattle.tree_model.specs.Cases.{case_length_answers_say, case_lengths_says, case_orders_says}
unfoldable pub use Rattle.tree_model.specs.Damage.{has_room, has_some, is_blank, lifts, node_ok, path_ok, read_ok, room, slot_ok, step_ok, work_ok}
pub use Rattle.tree_model.specs.Edge.{Edge}
pub use Rattle.tree_model.specs.Lengths.{short_level, short_levels, short_node, short_op, short_slot}
unfoldable pub use Rattle.tree_model.specs.Levels.{apply, level_move, step_level, step_work, top, work}
pub use Rattle.tree_model.specs.Levels.{Level, Levels, Shaped, idle}
unfoldable pub use Rattle.tree_model.specs.Node.{every, first_empty, is_empty, is_nothing, keep, least_count, low, lowest, op_move, pass, put_by, put_move, seek, slot_at, sum_counts, swap_by, swap_move, take_by, take_move, vacant}
pub use Rattle.tree_model.specs.Node.{move}
unfoldable pub use Rattle.tree_model.specs.Promise.{level_at, stored_count}
pub use Rattle.tree_model.specs.Promise.{Agree, Damage, Lifts, NodeDamaged, PathDamaged, PopThenPush, ReadDamaged, Shape, SlotDamaged, IsWork, StepDamaged, Stuck, WorkDamaged, Zeroed, after, clear_refusals, four_words, held_refusals, refusals, start, tree_queue}
pub use Rattle.tree_model.specs.Rules.{Comes, IsFirst, IsLeast, IsLowest, LowerTag, Puts, Swaps, Takes, clears, empty, ends, exchanges, full, goes, idles, lacks, no-tag, passes, puts, receives, stays, swaps, takes}
unfoldable pub use Rattle.tree_model.specs.Serve.{bare_levels, holding, ruled, serve}
pub use Rattle.tree_model.specs.Serve.{Store}
unfoldable pub use Rattle.tree_model.specs.Tree.{act, at, bare, hang, low_of, many, slots, tree_move, tree_of}
pub use Rattle.tree_model.specs.Tree.{Can, Fit, Sound, Tree, gain, held, loss, nothing, own, own_by, something}
unfoldable pub use Rattle.tree_model.specs.Words.{apply_words, level_of, levels_of, node_move, node_of, size, slot_of, step_words, tabulate, wipe, write}
pub use Rattle.tree_model.specs.Words.{rest_words, slot_words, under}
pub use Rattle.tree_model.specs.declared.Move.{Move}
pub use Rattle.tree_model.specs.declared.Op.{Op}
pub use Rattle.tree_model.specs.declared.Op.TheVariants.{Nothing, Put, Swap, Take}
pub use Rattle.tree_model.specs.declared.Slot.{Slot}
pub use Rattle.tree_model.specs.declared.Work.{Work}
