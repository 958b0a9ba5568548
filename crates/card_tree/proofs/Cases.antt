-- The rows of the tree, of its check and mender, and of ranks from weights, computed from the definitions.
use Rattle.laws.specs.Prelude.{All, blank, key, precedes, refl, untagged}
use Rattle.bucket_model.specs.Prelude.{filled}
use Rattle.card_tree.specs.Cases.{fair_rows, mend_rows, size_rows, tree_rows}
use Rattle.card_tree.specs.Fair.{fair_answered}
use Rattle.card_tree.specs.Mend.{check_answered, mend_answered}
use Rattle.card_words.specs.Cases.{Right}
use Rattle.card_words.specs.Out.{count_answered}
use Rattle.card_words.specs.Sizes.{tree_words}
use Rattle.card_words.specs.Store.{store_answered}
use Rattle.fair_model.specs.Calls.{pops, pushes, resets, strip_ok}
use Rattle.fair_model.specs.Ranks.{cells, finish, step}
use Rattle.tree_mend_model.specs.Check.{broken, broken_at, checked, rank_above, under_at, under_of, walk}
use Rattle.tree_mend_model.specs.Mend as mending
use Rattle.tree_mend_model.specs.Mend.{keeps, mended, skipped, skips}
use Rattle.promise.specs.Prelude.{leaves}
use Rattle.tree_model.specs.Prelude.{apply_words, called, cleared, every, first_empty, has_room, has_some, held_count, is_blank, is_empty, is_nothing, keep, least_count, level_move, level_of, levels_of, lifts, low, lowest, node_of, node_ok, op_move, order_ok, pass, path_ok, put_by, put_move, read_ok, room, rule, seek, shape_ok, size, slot_at, slot_of, slot_ok, step_ok, step_words, step_work, sum_counts, swap_by, swap_move, tabulate, take_by, take_move, top, vacant, wipe, work, work_ok, write}

pub tree-rows : All Right tree_rows
unfolding tree_rows filled store_answered count_answered called cleared held_count order_ok rule shape_ok has_room has_some is_blank lifts node_ok path_ok read_ok room slot_ok step_ok work_ok level_move step_work top work every first_empty is_empty is_nothing keep least_count low lowest op_move pass put_by put_move seek slot_at sum_counts swap_by swap_move take_by take_move vacant apply_words level_of levels_of node_of size slot_of step_words tabulate wipe write blank key precedes untagged
tree-rows = (refl, (refl, (refl, (refl, (refl, (refl, (refl, (refl, tt))))))))

pub mend-rows : All Right mend_rows
unfolding mend_rows filled check_answered mend_answered checked walk broken_at broken under_at under_of rank_above mended mending.pushes skipped keeps skips leaves called cleared held_count order_ok rule shape_ok has_room has_some is_blank lifts node_ok path_ok read_ok room slot_ok step_ok work_ok level_move step_work top work every first_empty is_empty is_nothing keep least_count low lowest op_move pass put_by put_move seek slot_at sum_counts swap_by swap_move take_by take_move vacant apply_words level_of levels_of node_of size slot_of step_words tabulate wipe write blank key precedes untagged
mend-rows = (refl, (refl, (refl, tt)))

pub fair-rows : All Right fair_rows
unfolding fair_rows filled fair_answered count_answered pushes pops resets strip_ok finish cells step called cleared held_count order_ok rule shape_ok has_room has_some is_blank lifts node_ok path_ok read_ok room slot_ok step_ok work_ok level_move step_work top work every first_empty is_empty is_nothing keep least_count low lowest op_move pass put_by put_move seek slot_at sum_counts swap_by swap_move take_by take_move vacant apply_words level_of levels_of node_of size slot_of step_words tabulate wipe write blank key precedes untagged
fair-rows = (refl, (refl, (refl, (refl, (refl, (refl, tt))))))

pub size-rows : All Right size_rows
unfolding size_rows tree_words order_ok shape_ok room
size-rows = (refl, (refl, (refl, tt)))
