-- 01's worked cases 6 and 10, an empty machine, elements without a tag, lengths, and machines stopped in the middle, computed from the definitions.
use Rattle.laws.specs.Prelude.{◌≡◌, blank, key, precedes, refl, sum_to, untagged}
use Rattle.tree_clock_model.specs.Prelude.{asks, carried, case_empty, case_empty_says, case_length_answers, case_length_answers_say, case_lengths, case_lengths_says, case_lost, case_lost_says, case_six, case_six_says, case_ten, case_ten_says, case_untagged, case_untagged_says, clocked_a, cycle_ok, cycle_run, cycle_words, cycled, drain_from, drains, fresh, is_refused, landed, marks, pops_or_replaces, quiet, record_at, records_after, rule_marked, stopped, struck, works_of}
use Rattle.promise.specs.Prelude.{answers, leaves}
use Rattle.tree_model.specs.Prelude.{cleared, every, first_empty, has_room, has_some, is_blank, is_empty, is_nothing, keep, least_count, level_at, level_move, level_of, levels_of, lifts, low, lowest, node_of, node_ok, op_move, order_ok, pass, put_by, put_move, read_ok, room, rule, seek, shape_ok, slot_at, slot_of, slot_ok, step_ok, step_words, step_work, stored_count, sum_counts, swap_by, swap_move, tabulate, take_by, take_move, top, vacant, wipe, work, work_ok, write}

pub case-6 : case_six ≡ case_six_says
unfolding case_six clocked_a leaves cycled cycle_run drains drain_from fresh rule_marked asks pops_or_replaces is_refused marks quiet cycle_words cycle_ok record_at works_of landed records_after blank key precedes untagged vacant is_empty seek every first_empty least_count lowest slot_at low keep pass put_by put_move take_by take_move swap_by swap_move op_move is_nothing sum_counts work top level_move step_work room is_blank slot_ok node_ok has_room has_some read_ok lifts step_ok work_ok slot_of write wipe tabulate node_of level_of levels_of step_words order_ok shape_ok rule cleared
case-6 = refl

pub case-10 : case_ten ≡ case_ten_says
unfolding case_ten answers cycled cycle_run fresh rule_marked asks pops_or_replaces is_refused marks cycle_words cycle_ok record_at works_of landed records_after blank key precedes untagged vacant is_empty seek every first_empty least_count lowest slot_at low keep pass put_by put_move take_by take_move swap_by swap_move op_move is_nothing sum_counts work top level_move step_work room is_blank slot_ok node_ok has_room has_some read_ok lifts step_ok work_ok slot_of write wipe tabulate node_of level_of levels_of step_words order_ok shape_ok rule cleared
case-10 = refl

pub case-empty : case_empty ≡ case_empty_says
unfolding case_empty answers cycled cycle_run fresh rule_marked asks pops_or_replaces is_refused marks cycle_words cycle_ok record_at works_of landed records_after blank key precedes untagged vacant is_empty seek every first_empty least_count lowest slot_at low keep pass put_by put_move take_by take_move swap_by swap_move op_move is_nothing sum_counts work top level_move step_work room is_blank slot_ok node_ok has_room has_some read_ok lifts step_ok work_ok slot_of write wipe tabulate node_of level_of levels_of step_words order_ok shape_ok rule cleared
case-empty = refl

pub case-untagged : case_untagged ≡ case_untagged_says
unfolding case_untagged answers cycled cycle_run fresh rule_marked asks pops_or_replaces is_refused marks cycle_words cycle_ok record_at works_of landed records_after blank key precedes untagged vacant is_empty seek every first_empty least_count lowest slot_at low keep pass put_by put_move take_by take_move swap_by swap_move op_move is_nothing sum_counts work top level_move step_work room is_blank slot_ok node_ok has_room has_some read_ok lifts step_ok work_ok slot_of write wipe tabulate node_of level_of levels_of step_words order_ok shape_ok rule cleared
case-untagged = refl

pub case-lengths : case_lengths ≡ case_lengths_says
unfolding case_lengths leaves cycled cycle_run fresh rule_marked asks pops_or_replaces is_refused marks cycle_words cycle_ok record_at works_of landed records_after blank key precedes untagged vacant is_empty seek every first_empty least_count lowest slot_at low keep pass put_by put_move take_by take_move swap_by swap_move op_move is_nothing sum_counts work top level_move step_work room is_blank slot_ok node_ok has_room has_some read_ok lifts step_ok work_ok slot_of write wipe tabulate node_of level_of levels_of step_words order_ok shape_ok rule cleared
case-lengths = refl

pub case-length-answers : case_length_answers ≡ case_length_answers_say
unfolding case_length_answers answers cycled cycle_run fresh rule_marked asks pops_or_replaces is_refused marks cycle_words cycle_ok record_at works_of landed records_after blank key precedes untagged vacant is_empty seek every first_empty least_count lowest slot_at low keep pass put_by put_move take_by take_move swap_by swap_move op_move is_nothing sum_counts work top level_move step_work room is_blank slot_ok node_ok has_room has_some read_ok lifts step_ok work_ok slot_of write wipe tabulate node_of level_of levels_of step_words order_ok shape_ok rule cleared
case-length-answers = refl

pub case-lost : case_lost ≡ case_lost_says
unfolding case_lost stopped carried struck stored_count level_at sum_to clocked_a leaves cycled cycle_run drains drain_from fresh rule_marked asks pops_or_replaces is_refused marks quiet cycle_words cycle_ok record_at works_of landed records_after blank key precedes untagged vacant is_empty seek every first_empty least_count lowest slot_at low keep pass put_by put_move take_by take_move swap_by swap_move op_move is_nothing sum_counts work top level_move step_work room is_blank slot_ok node_ok has_room has_some read_ok lifts step_ok work_ok slot_of write wipe tabulate node_of level_of levels_of step_words order_ok shape_ok rule cleared
case-lost = refl
