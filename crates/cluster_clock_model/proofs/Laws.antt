-- The laws of `cluster_clock_model` that other crates use, passed on.
pub use Rattle.cluster_clock_model.proofs.Cases.{case-clock, case-flight, case-flight-answers, case-tie, case-tie-answers}
pub use Rattle.cluster_clock_model.proofs.Drain.{drain-bad, drain-ran, drain-refused, drain-state, drain-within}
pub use Rattle.cluster_clock_model.proofs.Exactly.{clear-taken, cycled-bad, cycled-damaged, cycled-either, cycled-fine, cycled-length, damage-fails, sound, ticks}
pub use Rattle.cluster_clock_model.proofs.Passes.{stages-ranged}
pub use Rattle.cluster_clock_model.proofs.Promises.{shape-kept}
pub use Rattle.cluster_clock_model.proofs.Rest.{few-levels}
pub use Rattle.cluster_clock_model.proofs.Seen.{InRange, Ranged, handed-in, level-length, level-only, node-apart, pass-others, pass-records, ranged-set, set-later, settled-length}
