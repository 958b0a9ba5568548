-- What others take in of `cluster_clock_model`'s definitions, passed on.
unfoldable pub use Rattle.cluster_clock_model.specs.Calls.{clock_cleared, clock_held, cycle_run, cycled, drain_from, drains, fresh, is_nothing, quiet}
pub use Rattle.cluster_clock_model.specs.Calls.{CycleOutcome, DrainOutcome, asked_ok, cycle_outcome, drain_outcome, pending, stage_count}
unfoldable pub use Rattle.cluster_clock_model.specs.Cases.{case_clock, case_flight, case_flight_answers, case_gap, case_tie, case_tie_answers}
pub use Rattle.cluster_clock_model.specs.Cases.{case_clock_says, case_flight_answers_say, case_flight_says, case_gap_says, case_tie_answers_say, case_tie_says}
unfoldable pub use Rattle.cluster_clock_model.specs.Promise.{carried_by, first_node, work_of}
pub use Rattle.cluster_clock_model.specs.Promise.{Alike, AtRest, Busy, ChildTorn, CycleDamage, Filled, GivenAt, InLevel, InNode, Jams, Machine, NodeTorn, OneStep, Reads, SameStage, StageTorn, StagesTorn, WaitTorn, WaitsAt, call_answers, carries, cleared_machine, clock, cycle_answers, cycle_left, cycle_queue, cycle_refusals, drain_left, drain_refusals, flight, held_refusals, idles, leave_below, machine, machine_queue, ran, ran_calls, remaining, stage_below}
unfoldable pub use Rattle.cluster_clock_model.specs.Stage.{begins, filled, handed, level_stage, level_words, loaded, pass, settled, worked}
pub use Rattle.cluster_clock_model.specs.Stage.{Passed, Work, below, child_of, low_at, no_stage, note_of, stage, stage_at, stage_numbers, waits, work}
unfoldable pub use Rattle.cluster_clock_model.specs.Test.{gives_ok, is_gap, sane, sane_at, stage_ok, stages_ok, wait_ok}
pub use Rattle.cluster_clock_model.specs.declared.Due.{Due}
pub use Rattle.cluster_clock_model.specs.declared.Due.TheVariants.{Fill, Nothing, Put, Swap}
pub use Rattle.cluster_clock_model.specs.declared.Stage.{Stage}
