-- The rows of the cluster heap, one operation at a time and on the clock, computed from the definitions.
use Rattle.laws.specs.Prelude.{All, asks, blank, is_refused, key, precedes, refl, untagged}
use Rattle.bucket_model.specs.Prelude.{filled}
use Rattle.card_cluster.specs.Cases.{cluster_rows, sixes, size_rows, clocked_cluster_rows}
use Rattle.card_cluster.specs.ClockedCluster.{clocked_cluster_cycle, clocked_cluster_drain}
use Rattle.card_words.specs.Asked.{request_of}
use Rattle.card_words.specs.Cases.{Right}
use Rattle.card_words.specs.Out.{count_answered}
use Rattle.card_words.specs.Sizes.{cluster_words}
use Rattle.card_words.specs.Store.{store_answered}
use Rattle.cluster_clock_model.specs.Prelude.{begins, clock_cleared, clock_held, cycle_run, cycled, drain_from, drains, fresh, gives_ok, handed, is_gap, is_nothing, level_stage, level_words, loaded, quiet, sane, sane_at, settled, stage_ok, stages_ok, wait_ok, worked}
use Rattle.cluster_clock_model.specs.Stage as stages
use Rattle.cluster_records.specs.Lent.{kinds_ok, lent_cleared, lent_drains, lent_cycled, readable, stage_of, stages_back, stages_read}
use Rattle.cluster_model.specs.Prelude.{begin, called, children_ok, cleared, extent, fewer, fill_from, finish, free, free_here, held_count, high, high_elem, high_here, inside, is_blank, keep, low, low_elem, low_here, low_in, lower_side, flag_of, neat_place, neat_to, node_of, node_ok, nothing_below, own_ok, pass, place_at, place_by, place_of, put_by, read_ok, room, roomy, root_held, row_of, rule, run_words, seek, shape_ok, some, step_in, strict, swap_by, take_by, touch, trial_by, trial_from, under1, way_ok, wipe, works, write_node, write_place, write_row}

pub cluster-rows : All Right cluster_rows
unfolding cluster_rows filled store_answered count_answered called cleared held_count root_held rule shape_ok wipe begin fewer fill_from finish free free_here high high_elem high_here inside keep low low_elem lower_side low_here nothing_below pass place_at put_by seek swap_by take_by trial_by trial_from children_ok extent low_in neat_to node_ok own_ok read_ok roomy run_words some step_in strict touch under1 way_ok works flag_of is_blank neat_place node_of place_by place_of row_of write_node write_place write_row room blank key precedes untagged
cluster-rows = (refl, (refl, (refl, (refl, (refl, tt)))))

pub clocked-cluster-rows : All Right clocked_cluster_rows
unfolding clocked_cluster_rows sixes filled clocked_cluster_cycle clocked_cluster_drain request_of count_answered asks clock_cleared clock_held drain_from drains fresh is_nothing quiet cycled cycle_run is_refused stages.pass stages.filled begins handed level_stage level_words loaded settled worked gives_ok is_gap sane sane_at stage_ok stages_ok wait_ok kinds_ok lent_cleared lent_drains lent_cycled readable stage_of stages_back stages_read called cleared held_count root_held rule shape_ok wipe begin fewer fill_from finish free free_here high high_elem high_here inside keep low low_elem lower_side low_here nothing_below pass place_at put_by seek swap_by take_by trial_by trial_from children_ok extent low_in neat_to node_ok own_ok read_ok roomy run_words some step_in strict touch under1 way_ok works flag_of is_blank neat_place node_of place_by place_of row_of write_node write_place write_row room blank key precedes untagged
clocked-cluster-rows = (refl, (refl, (refl, (refl, (refl, (refl, tt))))))

pub size-rows : All Right size_rows
unfolding size_rows cluster_words shape_ok room extent
size-rows = (refl, (refl, tt))
