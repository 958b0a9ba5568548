-- The laws of `tree_clock_model` that other crates use, passed on.
pub use Rattle.tree_clock_model.proofs.Demand.{demand-idles, demand-store, few-levels, start-in-step}
pub use Rattle.tree_clock_model.proofs.Drain.{End, cycled-length, done, drain-bad, drain-left, drain-ran, drain-state, drain-within, jammed}
pub use Rattle.tree_clock_model.proofs.Exactly.{cycled-bad, cycled-either, cycled-fine, no-damage-sound, sound, sound-no-damage, stands, timed}
pub use Rattle.tree_clock_model.proofs.OneStep.{one-step}
pub use Rattle.tree_clock_model.proofs.Promises.{calls-words, clear-fresh, clear-taken, drained-fine, drained-left, held-says, numbers, shape-kept, undamaged}
pub use Rattle.tree_clock_model.proofs.Turn.{after-before, after-length, plain-rest, works-after, works-set}
