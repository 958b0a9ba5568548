-- Lengths on their way, and orders 4 and 8, computed from the definitions.
use Rattle.laws.specs.Prelude.{◌≡◌, blank, key, precedes, refl, untagged}
use Rattle.promise.specs.Prelude.{answers, leaves}
use Rattle.tree_model.specs.Prelude.{apply_words, called, case_length_answers, case_length_answers_say, case_lengths, case_lengths_says, case_orders, case_orders_says, cleared, every, first_empty, has_room, has_some, is_blank, is_empty, is_nothing, keep, least_count, level_move, level_of, levels_of, lifts, low, lowest, node_of, node_ok, op_move, order_ok, pass, path_ok, put_by, put_move, read_ok, room, rule, seek, shape_ok, slot_at, slot_of, slot_ok, step_ok, step_words, step_work, sum_counts, swap_by, swap_move, tabulate, take_by, take_move, top, vacant, wipe, work, work_ok, write}

pub case-lengths : case_lengths ≡ case_lengths_says
unfolding case_lengths leaves blank key precedes untagged vacant is_empty seek every first_empty least_count lowest slot_at low keep pass put_by put_move take_by take_move swap_by swap_move op_move is_nothing sum_counts work top level_move step_work room is_blank slot_ok node_ok has_room has_some read_ok lifts step_ok work_ok path_ok slot_of write wipe tabulate node_of level_of levels_of step_words apply_words order_ok shape_ok rule called cleared
case-lengths = refl

pub case-length-answers : case_length_answers ≡ case_length_answers_say
unfolding case_length_answers answers blank key precedes untagged vacant is_empty seek every first_empty least_count lowest slot_at low keep pass put_by put_move take_by take_move swap_by swap_move op_move is_nothing sum_counts work top level_move step_work room is_blank slot_ok node_ok has_room has_some read_ok lifts step_ok work_ok path_ok slot_of write wipe tabulate node_of level_of levels_of step_words apply_words order_ok shape_ok rule called cleared
case-length-answers = refl

pub case-orders : case_orders ≡ case_orders_says
unfolding case_orders leaves blank key precedes untagged vacant is_empty seek every first_empty least_count lowest slot_at low keep pass put_by put_move take_by take_move swap_by swap_move op_move is_nothing sum_counts work top level_move step_work room is_blank slot_ok node_ok has_room has_some read_ok lifts step_ok work_ok path_ok slot_of write wipe tabulate node_of level_of levels_of step_words apply_words order_ok shape_ok rule called cleared
case-orders = refl
