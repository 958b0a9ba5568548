-- The worked machines, computed from the definitions.
use Rattle.laws.specs.Prelude.{◌≡◌, asks, blank, key, precedes, refl, untagged}
use Rattle.cluster_clock_model.specs.Prelude.{begins, case_clock, case_clock_says, case_flight, case_flight_answers, case_flight_answers_say, case_flight_says, case_gap, case_gap_says, case_tie, case_tie_answers, case_tie_answers_say, case_tie_says, cycle_run, cycled, filled, fresh, gives_ok, handed, is_gap, level_stage, level_words, loaded, sane, sane_at, settled, stage_ok, stages_ok, wait_ok, worked}
use Rattle.cluster_clock_model.specs.Stage as stages
use Rattle.cluster_model.specs.Prelude.{begin, cleared, extent, fewer, fill_from, finish, free, free_here, high, high_elem, high_here, inside, is_blank, keep, low, low_elem, low_here, lower_side, flag_of, neat_place, neat_to, node_of, nothing_below, pass, place_at, place_by, place_of, put_by, room, roomy, root_held, row_of, rule, seek, shape_ok, some, swap_by, take_by, touch, trial_by, trial_from, wipe, works, write_node, write_place, write_row}
use Rattle.promise.specs.Prelude.{answers, leaves}

pub case-clock : case_clock ≡ case_clock_says
unfolding case_clock leaves blank key precedes untagged cleared root_held rule shape_ok wipe room begin fewer fill_from finish free free_here high high_elem high_here inside keep low low_elem lower_side low_here nothing_below pass place_at put_by seek swap_by take_by trial_by trial_from extent neat_to roomy some touch works flag_of is_blank neat_place node_of place_by place_of row_of write_node write_place write_row asks fresh cycled cycle_run stages.pass begins filled handed level_stage level_words loaded settled worked gives_ok is_gap sane sane_at stage_ok stages_ok wait_ok
case-clock = refl

pub case-flight : case_flight ≡ case_flight_says
unfolding case_flight leaves blank key precedes untagged cleared root_held rule shape_ok wipe room begin fewer fill_from finish free free_here high high_elem high_here inside keep low low_elem lower_side low_here nothing_below pass place_at put_by seek swap_by take_by trial_by trial_from extent neat_to roomy some touch works flag_of is_blank neat_place node_of place_by place_of row_of write_node write_place write_row asks fresh cycled cycle_run stages.pass begins filled handed level_stage level_words loaded settled worked gives_ok is_gap sane sane_at stage_ok stages_ok wait_ok
case-flight = refl

pub case-flight-answers : case_flight_answers ≡ case_flight_answers_say
unfolding case_flight_answers answers leaves blank key precedes untagged cleared root_held rule shape_ok wipe room begin fewer fill_from finish free free_here high high_elem high_here inside keep low low_elem lower_side low_here nothing_below pass place_at put_by seek swap_by take_by trial_by trial_from extent neat_to roomy some touch works flag_of is_blank neat_place node_of place_by place_of row_of write_node write_place write_row asks fresh cycled cycle_run stages.pass begins filled handed level_stage level_words loaded settled worked gives_ok is_gap sane sane_at stage_ok stages_ok wait_ok
case-flight-answers = refl

pub case-tie : case_tie ≡ case_tie_says
unfolding case_tie leaves blank key precedes untagged cleared root_held rule shape_ok wipe room begin fewer fill_from finish free free_here high high_elem high_here inside keep low low_elem lower_side low_here nothing_below pass place_at put_by seek swap_by take_by trial_by trial_from extent neat_to roomy some touch works flag_of is_blank neat_place node_of place_by place_of row_of write_node write_place write_row asks fresh cycled cycle_run stages.pass begins filled handed level_stage level_words loaded settled worked gives_ok is_gap sane sane_at stage_ok stages_ok wait_ok
case-tie = refl

pub case-tie-answers : case_tie_answers ≡ case_tie_answers_say
unfolding case_tie_answers answers leaves blank key precedes untagged cleared root_held rule shape_ok wipe room begin fewer fill_from finish free free_here high high_elem high_here inside keep low low_elem lower_side low_here nothing_below pass place_at put_by seek swap_by take_by trial_by trial_from extent neat_to roomy some touch works flag_of is_blank neat_place node_of place_by place_of row_of write_node write_place write_row asks fresh cycled cycle_run stages.pass begins filled handed level_stage level_words loaded settled worked gives_ok is_gap sane sane_at stage_ok stages_ok wait_ok
case-tie-answers = refl

pub case-gap : case_gap ≡ case_gap_says
unfolding case_gap leaves blank key precedes untagged cleared root_held rule shape_ok wipe room begin fewer fill_from finish free free_here high high_elem high_here inside keep low low_elem lower_side low_here nothing_below pass place_at put_by seek swap_by take_by trial_by trial_from extent neat_to roomy some touch works flag_of is_blank neat_place node_of place_by place_of row_of write_node write_place write_row asks fresh cycled cycle_run stages.pass begins filled handed level_stage level_words loaded settled worked gives_ok is_gap sane sane_at stage_ok stages_ok wait_ok
case-gap = refl
