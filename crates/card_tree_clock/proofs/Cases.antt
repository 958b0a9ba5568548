-- The rows of the clocked tree, computed from the definitions.
use Rattle.laws.specs.Prelude.{All, blank, key, precedes, refl, untagged}
use Rattle.bucket_model.specs.Prelude.{filled}
use Rattle.card_tree_clock.specs.Cases.{clocked_rows, fives}
use Rattle.card_tree_clock.specs.Clocked.{clocked_clear, clocked_cycle, clocked_drain}
use Rattle.card_words.specs.Cases.{Right}
use Rattle.card_words.specs.Asked.{asked, marked, request_of}
use Rattle.card_words.specs.Out.{count_answered}
use Rattle.tree_clock_model.specs.Prelude.{asks, clocked_cleared, cycle_ok, cycle_run, cycle_words, cycled, drain_from, drains, fresh, is_refused, landed, marks, pops_or_replaces, quiet, record_at, records_after, rule_marked, works_of}
use Rattle.tree_records.specs.Lent.{handed, kinds_ok, lent_cleared, lent_cycled, lent_drains, readable, work_of, works_back, works_read}
use Rattle.tree_model.specs.Prelude.{apply_words, called, cleared, every, first_empty, has_room, has_some, held_count, is_blank, is_empty, is_nothing, keep, least_count, level_move, level_of, levels_of, lifts, low, lowest, node_of, node_ok, op_move, order_ok, pass, path_ok, put_by, put_move, read_ok, room, rule, seek, shape_ok, size, slot_at, slot_of, slot_ok, step_ok, step_words, step_work, sum_counts, swap_by, swap_move, tabulate, take_by, take_move, top, vacant, wipe, work, work_ok, write}

pub clocked-rows : All Right clocked_rows
unfolding clocked_rows fives filled clocked_clear clocked_cycle clocked_drain asked marked request_of count_answered asks clocked_cleared cycled cycle_run drain_from drains fresh is_refused marks pops_or_replaces rule_marked cycle_ok cycle_words quiet landed record_at records_after works_of handed kinds_ok lent_cleared lent_cycled lent_drains readable work_of works_back works_read called cleared held_count order_ok rule shape_ok has_room has_some is_blank lifts node_ok path_ok read_ok room slot_ok step_ok work_ok level_move step_work top work every first_empty is_empty is_nothing keep least_count low lowest op_move pass put_by put_move seek slot_at sum_counts swap_by swap_move take_by take_move vacant apply_words level_of levels_of node_of size slot_of step_words tabulate wipe write blank key precedes untagged
clocked-rows = (refl, (refl, (refl, (refl, (refl, (refl, (refl, tt)))))))
