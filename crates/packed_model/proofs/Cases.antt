-- The worked store and its answers, computed.
use Rattle.laws.specs.Prelude.{◌≡◌, blank, keep, key, pass, refl, untagged}
use Rattle.packed_model.specs.Calls.{called, cleared, does, reads_ok, root_ok, shape_ok, wipe}
use Rattle.packed_model.specs.Cases.{case_deep, case_deep_says, case_even, case_even_says, case_packed, case_packed_answers, case_packed_answers_say, case_packed_says, case_spoilt, case_spoilt_says}
use Rattle.packed_model.specs.Node.{lifts, lower_side, rest_of, sink_by, size, step, turn_of}
use Rattle.packed_model.specs.Words.{capacity, cut_last, depth, extent, last_in, last_slot, own_ok, place_ok, run_words, slot_at, slot_in, slot_of, step_in, tagged, top_in, touch, towards, way_ok, works, write_slot, zero_slot}
use Rattle.promise.specs.Prelude.{answers, leaves}

pub case-packed : case_packed ≡ case_packed_says
unfolding case_packed answers leaves blank key untagged size turn_of rest_of lower_side lifts keep pass sink_by step works depth slot_in write_slot top_in slot_at slot_of step_in touch run_words zero_slot tagged place_ok own_ok way_ok capacity extent shape_ok wipe root_ok reads_ok does towards last_slot last_in cut_last called cleared
case-packed = refl

pub case-answers : case_packed_answers ≡ case_packed_answers_say
unfolding case_packed_answers answers leaves blank key untagged size turn_of rest_of lower_side lifts keep pass sink_by step works depth slot_in write_slot top_in slot_at slot_of step_in touch run_words zero_slot tagged place_ok own_ok way_ok capacity extent shape_ok wipe root_ok reads_ok does towards last_slot last_in cut_last called cleared
case-answers = refl

pub case-even : case_even ≡ case_even_says
unfolding case_even answers leaves blank key untagged size turn_of rest_of lower_side lifts keep pass sink_by step works depth slot_in write_slot top_in slot_at slot_of step_in touch run_words zero_slot tagged place_ok own_ok way_ok capacity extent shape_ok wipe root_ok reads_ok does towards last_slot last_in cut_last called cleared
case-even = refl

pub case-deep : case_deep ≡ case_deep_says
unfolding case_deep answers leaves blank key untagged size turn_of rest_of lower_side lifts keep pass sink_by step works depth slot_in write_slot top_in slot_at slot_of step_in touch run_words zero_slot tagged place_ok own_ok way_ok capacity extent shape_ok wipe root_ok reads_ok does towards last_slot last_in cut_last called cleared
case-deep = refl

pub case-spoilt : case_spoilt ≡ case_spoilt_says
unfolding case_spoilt answers leaves blank key untagged size turn_of rest_of lower_side lifts keep pass sink_by step works depth slot_in write_slot top_in slot_at slot_of step_in touch run_words zero_slot tagged place_ok own_ok way_ok capacity extent shape_ok wipe root_ok reads_ok does towards last_slot last_in cut_last called cleared
case-spoilt = refl
