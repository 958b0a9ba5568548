-- 01's worked trace, one of replaces, one of elements without a tag, two of version 2 and six of the format, by computing.
use Rattle.laws.specs.Prelude.{◌≡◌, blank, key, precedes, refl, untagged}
use Rattle.tree_clock_model.specs.Prelude.{asks, cycle_ok, cycle_run, cycle_words, cycled, drain_from, drains, fresh, is_refused, landed, marks, pops_or_replaces, quiet, record_at, records_after, rule_marked, works_of}
use Rattle.text.specs.Text.{decimal, decimal_by}
use Rattle.trace_model.specs.Example.{cut, cut_lengths, cut_lengths_say, cut_says, deep, deep_says, emptied, emptied_says, example, example_says, idle_ranked, idle_ranked_says, lengthless, lengthless_says, lengths, lengths_say, pop_tagged, pop_tagged_says, untagged_ones, untagged_says, wide, wide_says}
use Rattle.trace_model.specs.Format.{bad_line, cut_record, done_word, end_line, entry_at, entry_of, headed, header_of, length_at, length_word, line_of, sign_ok, out_word, records_from, records_of, refusal_word, trace_shape, word_of}
use Rattle.trace_model.specs.Program.{empty_store, end_of, text_from, text_of, trace_text}
use Rattle.tree_model.specs.Prelude.{cleared, every, first_empty, has_room, has_some, held_count, is_blank, is_empty, is_nothing, keep, least_count, level_move, level_of, levels_of, lifts, low, lowest, node_of, node_ok, op_move, order_ok, pass, put_by, put_move, read_ok, room, rule, seek, shape_ok, slot_at, slot_of, slot_ok, step_ok, step_words, step_work, sum_counts, swap_by, swap_move, tabulate, take_by, take_move, top, vacant, wipe, work, work_ok, write}

pub worked : trace_text example ≡ example_says
unfolding trace_text text_of text_from empty_store end_of header_of headed sign_ok trace_shape records_of records_from cut_record entry_at length_at entry_of line_of word_of done_word refusal_word out_word length_word end_line decimal decimal_by cycled cycle_run drains drain_from held_count fresh rule_marked asks pops_or_replaces is_refused marks quiet cycle_words cycle_ok record_at works_of landed records_after blank key precedes untagged vacant is_empty seek every first_empty least_count lowest slot_at low keep pass put_by put_move take_by take_move swap_by swap_move op_move is_nothing sum_counts work top level_move step_work room is_blank slot_ok node_ok has_room has_some read_ok lifts step_ok work_ok slot_of write wipe tabulate node_of level_of levels_of step_words order_ok shape_ok rule cleared
worked = refl

pub worked-replaces : trace_text emptied ≡ emptied_says
unfolding trace_text text_of text_from empty_store end_of header_of headed sign_ok trace_shape records_of records_from cut_record entry_at length_at entry_of line_of word_of done_word refusal_word out_word length_word end_line decimal decimal_by cycled cycle_run drains drain_from held_count fresh rule_marked asks pops_or_replaces is_refused marks quiet cycle_words cycle_ok record_at works_of landed records_after blank key precedes untagged vacant is_empty seek every first_empty least_count lowest slot_at low keep pass put_by put_move take_by take_move swap_by swap_move op_move is_nothing sum_counts work top level_move step_work room is_blank slot_ok node_ok has_room has_some read_ok lifts step_ok work_ok slot_of write wipe tabulate node_of level_of levels_of step_words order_ok shape_ok rule cleared
worked-replaces = refl

pub worked-untagged : trace_text untagged_ones ≡ untagged_says
unfolding trace_text text_of text_from empty_store end_of header_of headed sign_ok trace_shape records_of records_from cut_record entry_at length_at entry_of line_of word_of done_word refusal_word out_word length_word end_line decimal decimal_by cycled cycle_run drains drain_from held_count fresh rule_marked asks pops_or_replaces is_refused marks quiet cycle_words cycle_ok record_at works_of landed records_after blank key precedes untagged vacant is_empty seek every first_empty least_count lowest slot_at low keep pass put_by put_move take_by take_move swap_by swap_move op_move is_nothing sum_counts work top level_move step_work room is_blank slot_ok node_ok has_room has_some read_ok lifts step_ok work_ok slot_of write wipe tabulate node_of level_of levels_of step_words order_ok shape_ok rule cleared
worked-untagged = refl

-- ---- version 2
pub worked-lengths : trace_text lengths ≡ lengths_say
unfolding trace_text text_of text_from empty_store end_of header_of headed sign_ok trace_shape records_of records_from cut_record entry_at length_at entry_of line_of word_of done_word refusal_word out_word length_word end_line decimal decimal_by cycled cycle_run drains drain_from held_count fresh rule_marked asks pops_or_replaces is_refused marks quiet cycle_words cycle_ok record_at works_of landed records_after blank key precedes untagged vacant is_empty seek every first_empty least_count lowest slot_at low keep pass put_by put_move take_by take_move swap_by swap_move op_move is_nothing sum_counts work top level_move step_work room is_blank slot_ok node_ok has_room has_some read_ok lifts step_ok work_ok slot_of write wipe tabulate node_of level_of levels_of step_words order_ok shape_ok rule cleared
worked-lengths = refl

pub worked-lengthless : trace_text lengthless ≡ lengthless_says
unfolding trace_text text_of text_from empty_store end_of header_of headed sign_ok trace_shape records_of records_from cut_record entry_at length_at entry_of line_of word_of done_word refusal_word out_word length_word bad_line end_line decimal decimal_by cycled cycle_run drains drain_from held_count fresh rule_marked asks pops_or_replaces is_refused marks quiet cycle_words cycle_ok record_at works_of landed records_after blank key precedes untagged vacant is_empty seek every first_empty least_count lowest slot_at low keep pass put_by put_move take_by take_move swap_by swap_move op_move is_nothing sum_counts work top level_move step_work room is_blank slot_ok node_ok has_room has_some read_ok lifts step_ok work_ok slot_of write wipe tabulate node_of level_of levels_of step_words order_ok shape_ok rule cleared
worked-lengthless = refl

-- ---- the format, in either version: order 4 and 8, other levels than 2, numbers of four bytes, code 4, a cut record, an idle record with a rank, a pop with a tag
pub worked-format : (trace_text wide ≡ wide_says) × (trace_text deep ≡ deep_says) × (trace_text cut ≡ cut_says) × (trace_text cut_lengths ≡ cut_lengths_say) × (trace_text idle_ranked ≡ idle_ranked_says) × (trace_text pop_tagged ≡ pop_tagged_says)
unfolding trace_text text_of text_from empty_store end_of header_of headed sign_ok trace_shape records_of records_from cut_record entry_at length_at entry_of line_of word_of done_word refusal_word out_word length_word bad_line end_line decimal decimal_by cycled cycle_run drains drain_from held_count fresh rule_marked asks pops_or_replaces is_refused marks quiet cycle_words cycle_ok record_at works_of landed records_after blank key precedes untagged vacant is_empty seek every first_empty least_count lowest slot_at low keep pass put_by put_move take_by take_move swap_by swap_move op_move is_nothing sum_counts work top level_move step_work room is_blank slot_ok node_ok has_room has_some read_ok lifts step_ok work_ok slot_of write wipe tabulate node_of level_of levels_of step_words order_ok shape_ok rule cleared
worked-format = (refl, refl, refl, refl, refl, refl)
