-- What others take in of `tree_clock_model`'s definitions, passed on.
unfoldable pub use Rattle.tree_clock_model.specs.Calls.{asks, clocked_cleared, cycle_run, cycled, drain_from, drains, fresh, is_refused, marks, pops_or_replaces, rule_marked}
pub use Rattle.tree_clock_model.specs.Calls.{CycleOutcome, DrainOutcome, all_levels, asked_ok, cleared_machine, cycle_outcome, cycle_work, drain_outcome, pending, record_count, rule_now, steps_ok}
unfoldable pub use Rattle.tree_clock_model.specs.Cases.{case_empty, case_length_answers, case_lengths, case_lost, case_six, case_ten, case_untagged, clocked_a, stopped}
pub use Rattle.tree_clock_model.specs.Cases.{case_empty_says, case_length_answers_say, case_lengths_says, case_lost_says, case_six_says, case_ten_says, case_untagged_says}
unfoldable pub use Rattle.tree_clock_model.specs.Cycle.{cycle_levels, cycle_ok, cycle_words, cycle_works, quiet}
pub use Rattle.tree_clock_model.specs.Cycle.{Works}
unfoldable pub use Rattle.tree_clock_model.specs.Lost.{carried, struck}
pub use Rattle.tree_clock_model.specs.Lost.{Call, NothingLost, asked, call_answers, carries, in_slots, machine_queue, ran_calls, remaining, strikes}
unfoldable pub use Rattle.tree_clock_model.specs.Promise.{calls_of, one_by_one}
pub use Rattle.tree_clock_model.specs.Promise.{Alike, CycleDamage, Jams, Machine, OneStep, PopThenPush, PopsOrReplaces, Recorded, Rests, WorksDamaged, capped, clock, clocked_queue, cycle_answers, cycle_left, cycle_refusals, drain_left, drain_refusals, first_slot, flight, has_run, idles, is_bad_shape, leave_below, level_now, level_work, machine, one_by_one_answers, one_by_one_queue, one_by_one_words, ran, runs, runs_idle, stored_then}
unfoldable pub use Rattle.tree_clock_model.specs.Records.{landed, record_at, records_after, works_of}
unfoldable pub use Rattle.tree_clock_model.specs.Settle.{settle}
pub use Rattle.tree_clock_model.specs.Settle.{Clear, Gap, Lead, PathsOk, Spaced, finally}
pub use Rattle.tree_clock_model.specs.declared.State.{State}
