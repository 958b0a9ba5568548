-- The worked cases, computed from the definitions. The bound is reached, so it cannot be smaller.
use Rattle.laws.specs.Prelude.{[], ◌≡◌, arith, blank, inl, inr, key, precedes, refl, untagged}
use Rattle.promise.specs.Prelude.{answers, leaves}
use Rattle.tree_model.proofs.Laws.{shape_is}
use Rattle.tree_model.specs.Prelude.{apply_words, called, cleared, every, first_empty, has_room, has_some, held_count, is_blank, is_empty, is_nothing, keep, least_count, level_move, level_of, levels_of, lifts, low, lowest, node_of, node_ok, op_move, order_ok, pass, path_ok, put_by, put_move, read_ok, room, rule, seek, shape_ok, size, slot_at, slot_of, slot_ok, step_ok, step_words, step_work, sum_counts, swap_by, swap_move, tabulate, take_by, take_move, top, vacant, wipe, work, work_ok, write}
use Rattle.fair_model.specs.Calls.{pops, pushes, resets, strip_ok}
use Rattle.fair_model.specs.Cases.{case_before, case_fair, case_fair_says, case_limits, case_limits_says, case_reset, case_reset_says, case_served, case_served_says, case_spent, case_spent_says, case_state, case_store, case_stretch, case_words, case_words_says}
use Rattle.fair_model.specs.Ledger.{moved, run, served, served_by, without}
use Rattle.fair_model.specs.Promise.{fair_queue, From, moves, SteadyIn, StruckIn}
use Rattle.fair_model.specs.Ranks.{cells, finish, step}

-- REACHED: the served cells times step differ by the whole bound ..
pub case-served : case_served ≡ case_served_says
unfolding case_served leaves answers served served_by moves run moved without fair_queue pushes pops resets strip_ok finish cells step blank key untagged precedes vacant is_empty slot_at seek every first_empty least_count lowest low sum_counts keep pass put_by put_move take_by take_move swap_by swap_move op_move is_nothing top work level_move step_work slot_of write wipe tabulate node_of size level_of levels_of step_words apply_words room is_blank slot_ok node_ok has_room has_some read_ok lifts step_ok work_ok path_ok order_ok shape_ok rule called cleared held_count
case-served = refl

-- .. and every condition of `fairness` holds
pub reached-from : From 2 2 case_store [] case_state case_before
unfolding leaves answers served served_by moves run moved without fair_queue pushes pops resets strip_ok finish cells step blank key untagged precedes vacant is_empty slot_at seek every first_empty least_count lowest low sum_counts keep pass put_by put_move take_by take_move swap_by swap_move op_move is_nothing top work level_move step_work slot_of write wipe tabulate node_of size level_of levels_of step_words apply_words room is_blank slot_ok node_ok has_room has_some read_ok lifts step_ok work_ok path_ok order_ok shape_ok rule called cleared held_count
reached-from = record { shape = shape_is 2 2 26 refl; accepted = refl; attributed = (tt, (tt, (tt, ((omega arith, refl), (tt, (tt, tt)))))) }

pub reached-struck : StruckIn 2 2 case_store [] case_state case_before case_stretch
unfolding leaves answers served served_by moves run moved without fair_queue pushes pops resets strip_ok finish cells step blank key untagged precedes vacant is_empty slot_at seek every first_empty least_count lowest low sum_counts keep pass put_by put_move take_by take_move swap_by swap_move op_move is_nothing top work level_move step_work slot_of write wipe tabulate node_of size level_of levels_of step_words apply_words room is_blank slot_ok node_ok has_room has_some read_ok lifts step_ok work_ok path_ok order_ok shape_ok rule called cleared held_count
reached-struck = ((omega arith, refl), ((omega arith, refl), tt))

pub reached-steady : SteadyIn 2 2 case_store [] case_state case_before case_stretch 0 1 × SteadyIn 2 2 case_store [] case_state case_before case_stretch 1 1
unfolding leaves answers served served_by moves run moved without fair_queue pushes pops resets strip_ok finish cells step blank key untagged precedes vacant is_empty slot_at seek every first_empty least_count lowest low sum_counts keep pass put_by put_move take_by take_move swap_by swap_move op_move is_nothing top work level_move step_work slot_of write wipe tabulate node_of size level_of levels_of step_words apply_words room is_blank slot_ok node_ok has_room has_some read_ok lifts step_ok work_ok path_ok order_ok shape_ok rule called cleared held_count
reached-steady = (
  record { waiting = (λ e. refl, (λ e. refl, (λ e. refl, (λ e. refl, tt)))); pushed = (tt, (tt, tt)); busy = (inl refl, (inl refl, tt)) },
  record { waiting = (λ e. refl, (λ e. refl, (λ e. refl, (λ e. refl, tt)))); pushed = (tt, (tt, tt)); busy = (inr (inl refl), (inr (inl refl), tt)) },
)

-- the answers, the words, and the largest finish
pub case-fair : case_fair ≡ case_fair_says
unfolding case_fair leaves answers served served_by moves run moved without fair_queue pushes pops resets strip_ok finish cells step blank key untagged precedes vacant is_empty slot_at seek every first_empty least_count lowest low sum_counts keep pass put_by put_move take_by take_move swap_by swap_move op_move is_nothing top work level_move step_work slot_of write wipe tabulate node_of size level_of levels_of step_words apply_words room is_blank slot_ok node_ok has_room has_some read_ok lifts step_ok work_ok path_ok order_ok shape_ok rule called cleared held_count
case-fair = refl

pub case-words : case_words ≡ case_words_says
unfolding case_words leaves answers served served_by moves run moved without fair_queue pushes pops resets strip_ok finish cells step blank key untagged precedes vacant is_empty slot_at seek every first_empty least_count lowest low sum_counts keep pass put_by put_move take_by take_move swap_by swap_move op_move is_nothing top work level_move step_work slot_of write wipe tabulate node_of size level_of levels_of step_words apply_words room is_blank slot_ok node_ok has_room has_some read_ok lifts step_ok work_ok path_ok order_ok shape_ok rule called cleared held_count
case-words = refl

pub case-spent : case_spent ≡ case_spent_says
unfolding case_spent leaves answers served served_by moves run moved without fair_queue pushes pops resets strip_ok finish cells step blank key untagged precedes vacant is_empty slot_at seek every first_empty least_count lowest low sum_counts keep pass put_by put_move take_by take_move swap_by swap_move op_move is_nothing top work level_move step_work slot_of write wipe tabulate node_of size level_of levels_of step_words apply_words room is_blank slot_ok node_ok has_room has_some read_ok lifts step_ok work_ok path_ok order_ok shape_ok rule called cleared held_count
case-spent = refl

pub case-reset : case_reset ≡ case_reset_says
unfolding case_reset resets blank vacant is_empty every sum_counts slot_of tabulate node_of room is_blank slot_ok node_ok order_ok shape_ok held_count
case-reset = refl

pub case-limits : case_limits ≡ case_limits_says
unfolding case_limits pushes pops resets strip_ok finish cells step blank key untagged precedes vacant is_empty slot_at seek every first_empty least_count lowest low sum_counts keep pass put_by put_move take_by take_move swap_by swap_move op_move is_nothing top work level_move step_work slot_of write wipe tabulate node_of size level_of levels_of step_words apply_words room is_blank slot_ok node_ok has_room has_some read_ok lifts step_ok work_ok path_ok order_ok shape_ok rule called cleared held_count
case-limits = refl
