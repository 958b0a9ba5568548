-- The worked store, computed from the definitions.
use Rattle.laws.specs.Prelude.{◌≡◌, blank, key, precedes, refl, untagged}
use Rattle.promise.specs.Prelude.{answers, leaves}
use Rattle.cluster_model.specs.Prelude.{begin, called, case_cluster, case_cluster_answers, case_cluster_answers_say, case_cluster_says, case_equal, case_equal_says, children_ok, cleared, extent, fewer, fill_from, finish, free, free_here, high, high_elem, high_here, inside, is_blank, keep, low, low_elem, low_here, low_in, lower_side, flag_of, neat_place, neat_to, node_of, node_ok, nothing_below, own_ok, pass, place_at, place_by, place_of, put_by, read_ok, room, roomy, root_held, row_of, rule, run_words, seek, shape_ok, some, step_in, strict, swap_by, take_by, touch, trial_by, trial_from, under1, way_ok, wipe, works, write_node, write_place, write_row}

pub case-cluster : case_cluster ≡ case_cluster_says
unfolding case_cluster leaves blank key precedes untagged called cleared root_held rule shape_ok wipe room begin fewer fill_from finish free free_here high high_elem high_here inside keep low low_elem lower_side low_here nothing_below pass place_at put_by seek swap_by take_by trial_by trial_from children_ok extent low_in neat_to node_ok own_ok read_ok roomy run_words some step_in strict touch under1 way_ok works flag_of is_blank neat_place node_of place_by place_of row_of write_node write_place write_row
case-cluster = refl

pub case-cluster-answers : case_cluster_answers ≡ case_cluster_answers_say
unfolding case_cluster_answers answers blank key precedes untagged called cleared root_held rule shape_ok wipe room begin fewer fill_from finish free free_here high high_elem high_here inside keep low low_elem lower_side low_here nothing_below pass place_at put_by seek swap_by take_by trial_by trial_from children_ok extent low_in neat_to node_ok own_ok read_ok roomy run_words some step_in strict touch under1 way_ok works flag_of is_blank neat_place node_of place_by place_of row_of write_node write_place write_row
case-cluster-answers = refl

pub case-equal : case_equal ≡ case_equal_says
unfolding case_equal leaves blank key precedes untagged called cleared root_held rule shape_ok wipe room begin fewer fill_from finish free free_here high high_elem high_here inside keep low low_elem lower_side low_here nothing_below pass place_at put_by seek swap_by take_by trial_by trial_from children_ok extent low_in neat_to node_ok own_ok read_ok roomy run_words some step_in strict touch under1 way_ok works flag_of is_blank neat_place node_of place_by place_of row_of write_node write_place write_row
case-equal = refl
