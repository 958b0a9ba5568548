-- What others take in of `cluster_model`'s definitions, passed on.
unfoldable pub use Rattle.cluster_model.specs.Calls.{called, cleared, held_count, root_held, rule, shape_ok, wipe}
pub use Rattle.cluster_model.specs.Calls.{Outcome, Ruling, heap, held_in, op_of, outcome, place_limit, root_ok, rule_at, ruling}
unfoldable pub use Rattle.cluster_model.specs.Cases.{case_cluster, case_cluster_answers, case_equal}
pub use Rattle.cluster_model.specs.Cases.{case_cluster_answers_say, case_cluster_says, case_equal_says}
pub use Rattle.cluster_model.specs.Edge.{Edge}
unfoldable pub use Rattle.cluster_model.specs.Heap.{act, lowest, many, room}
pub use Rattle.cluster_model.specs.Heap.{Became, Can, Fit, Heap, Rest, Sound, Waiting, carried, gain, loss}
unfoldable pub use Rattle.cluster_model.specs.Node.{begin, fewer, fill_from, finish, free, free_here, high, high_elem, high_here, inside, keep, low, low_elem, low_here, lower_side, nothing_below, pass, place_at, put_by, seek, swap_by, take_by, trial_by, trial_from}
pub use Rattle.cluster_model.specs.Node.{Bag, Begun, Finished, Node, Note, Op, Place, Side, above, ahead, begun, count, elem_of, fill, finished, gap, has, hit_at, lhs, none, nothing, onto, pick, put, raise, rhs, side_if, sink, store, swap, take, to_left, to_right, trial, under}
unfoldable pub use Rattle.cluster_model.specs.Promise.{nodes, stored_count}
pub use Rattle.cluster_model.specs.Promise.{Agree, AnyTo, ChildDamaged, Damage, NodeDamaged, PathDamaged, PlaceDamaged, PopThenPush, Shape, StepDamaged, Stuck, Zeroed, after, clear_refusals, cluster_queue, held_refusals, flagged, refusals, start}
pub use Rattle.cluster_model.specs.Rules.{Comes, Fewer, IsFree, IsHighest, IsLowest, Lower, Puts, Swaps, Takes, clears, empty, ends, exchanges, fills, full, goes, idles, lacks, no-tag, passes, puts, stays, step_of, swaps, takes}
unfoldable pub use Rattle.cluster_model.specs.Way.{children_ok, extent, heap_in, low_in, neat_to, node_ok, own_ok, read_ok, roomy, run_words, some, step_in, strict, touch, under1, way_ok, works}
pub use Rattle.cluster_model.specs.Way.{Lies, child, node_in, spot_of}
unfoldable pub use Rattle.cluster_model.specs.Words.{is_blank, flag_of, neat_place, node_of, place_by, place_of, row_of, write_node, write_place, write_row}
pub use Rattle.cluster_model.specs.Words.{Neat, NeatPlace, NeatRow, Only, count_words, flag_at, place_words, right_at, width, word}
