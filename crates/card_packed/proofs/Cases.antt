-- The rows through C, computed from the definitions.
use Rattle.laws.specs.Prelude.{◌≡◌, blank, keep, key, pass, refl, untagged}
use Rattle.card_packed.specs.Cases.{count_rows, count_rows_say, deep_rows, deep_rows_say, heard_rows, heard_rows_say, left_rows, left_rows_say, out_rows, out_rows_say, size_rows, size_rows_say, store_rows, store_rows_say}
use Rattle.card_packed.specs.Packed.{packed_words}
use Rattle.card_words.specs.Out.{count_answered}
use Rattle.card_words.specs.Store.{store_answered}
use Rattle.packed_model.specs.Calls.{called, cleared, does, held_count, reads_ok, root_ok, shape_ok, wipe}
use Rattle.packed_model.specs.Node.{lifts, lower_side, rest_of, sink_by, size, step, turn_of}
use Rattle.packed_model.specs.Words.{capacity, cut_last, depth, extent, last_in, last_slot, own_ok, place_ok, run_words, slot_at, slot_in, slot_of, step_in, tagged, top_in, touch, towards, way_ok, works, write_slot, zero_slot}
use Rattle.promise.specs.Prelude.{answers, leaves}

pub store-rows : store_rows ≡ store_rows_say
unfolding store_rows blank key untagged size turn_of rest_of lower_side lifts keep pass sink_by step works depth slot_in write_slot top_in slot_at slot_of step_in touch run_words zero_slot tagged place_ok own_ok way_ok capacity extent shape_ok wipe root_ok reads_ok does towards last_slot last_in cut_last called cleared
store-rows = refl

pub out-rows : out_rows ≡ out_rows_say
unfolding out_rows store_answered blank key untagged size turn_of rest_of lower_side lifts keep pass sink_by step works depth slot_in write_slot top_in slot_at slot_of step_in touch run_words zero_slot tagged place_ok own_ok way_ok capacity extent shape_ok wipe root_ok reads_ok does towards last_slot last_in cut_last called cleared
out-rows = refl

pub count-rows : count_rows ≡ count_rows_say
unfolding count_rows count_answered held_count size zero_slot tagged capacity extent shape_ok root_ok
count-rows = refl

pub size-rows : size_rows ≡ size_rows_say
unfolding size_rows packed_words size capacity extent shape_ok
size-rows = refl

pub left-rows : left_rows ≡ left_rows_say
unfolding left_rows answers leaves store_answered blank key untagged size turn_of rest_of lower_side lifts keep pass sink_by step works depth slot_in write_slot top_in slot_at slot_of step_in touch run_words zero_slot tagged place_ok own_ok way_ok capacity extent shape_ok wipe root_ok reads_ok does towards last_slot last_in cut_last called cleared
left-rows = refl

pub heard-rows : heard_rows ≡ heard_rows_say
unfolding heard_rows answers leaves store_answered blank key untagged size turn_of rest_of lower_side lifts keep pass sink_by step works depth slot_in write_slot top_in slot_at slot_of step_in touch run_words zero_slot tagged place_ok own_ok way_ok capacity extent shape_ok wipe root_ok reads_ok does towards last_slot last_in cut_last called cleared
heard-rows = refl

pub deep-rows : deep_rows ≡ deep_rows_say
unfolding deep_rows store_answered blank key untagged size turn_of rest_of lower_side lifts keep pass sink_by step works depth slot_in write_slot top_in slot_at slot_of step_in touch run_words zero_slot tagged place_ok own_ok way_ok capacity extent shape_ok wipe root_ok reads_ok does towards last_slot last_in cut_last called cleared
deep-rows = refl
