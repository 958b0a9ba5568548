-- The worked stores, computed from the definitions.
use Rattle.laws.specs.Prelude.{All, [], ◌++◌, ◌∷◌, ◌≡◌, blank, key, refl, untagged}
use Rattle.promise.specs.Prelude.{leaves}
use Rattle.tree_model.specs.Prelude.{apply_words, called, cleared, every, first_empty, has_room, is_blank, is_empty, is_nothing, keep, least_count, level_move, level_of, levels_of, lifts, node_of, node_ok, op_move, order_ok, pass, path_ok, put_by, put_move, read_ok, room, rule, seek, shape_ok, slot_at, slot_of, slot_ok, step_ok, step_words, step_work, sum_counts, tabulate, top, vacant, wipe, work, work_ok, write}
use Rattle.tree_mend_model.specs.Cases.{mend_case, mend_two, Right, slots_of, table}
use Rattle.tree_mend_model.specs.Check.{broken, broken_at, checked, descended, each, node_whole, rank_above, under_at, under_of, walk}
use Rattle.tree_mend_model.specs.Mend.{keeps, mended, pushes, skipped, skips}

pub check-cases : All Right table
unfolding table checked descended each node_whole shape_ok order_ok room walk broken_at broken under_at under_of rank_above is_empty is_blank every sum_counts slot_of node_of tabulate
check-cases =
    ((refl, refl), ((refl, refl), ((refl, refl), ((refl, refl), ((refl, refl), ((refl, refl), ((refl, refl), ((refl, refl), ((refl, refl), ((refl, refl), ((refl, refl), ((refl, refl), ((refl, refl), ((refl, refl), tt))))))))))))))

-- 8/0 is skipped; 5/50, 2/20 and 3/30 come in, in slice order; the words behind the shape stand
pub mend-case : mend_case ≡ (slots_of ((3, 30, 300, 2) ∷ (2, 20, 200, 1) ∷ (5, 50, 500, 1) ∷ (0, 0, 0, 0) ∷ (0, 0, 0, 0) ∷ (0, 0, 0, 0) ∷ []) ++ (9 ∷ 9 ∷ []), 0, 1)
unfolding leaves untagged key blank vacant is_empty every seek first_empty least_count slot_at keep pass put_by put_move op_move is_nothing sum_counts work top level_move step_work room is_blank slot_ok node_ok has_room read_ok lifts step_ok work_ok path_ok order_ok shape_ok rule called cleared slot_of write wipe tabulate node_of level_of levels_of step_words apply_words keeps skips pushes skipped mended
mend-case = refl

pub mend-two : mend_two ≡ (slots_of ((5, 50, 500, 1) ∷ (3, 30, 300, 1) ∷ (0, 0, 0, 0) ∷ (0, 0, 0, 0) ∷ []), 0, 1)
unfolding leaves untagged key blank vacant is_empty every seek first_empty least_count slot_at keep pass put_by put_move op_move is_nothing sum_counts work top level_move step_work room is_blank slot_ok node_ok has_room read_ok lifts step_ok work_ok path_ok order_ok shape_ok rule called cleared slot_of write wipe tabulate node_of level_of levels_of step_words apply_words keeps skips pushes skipped mended
mend-two = refl
