-- The laws of `fair_model` that other crates use, passed on.
pub use Rattle.fair_model.proofs.Exactly.{fair-kind}
pub use Rattle.fair_model.proofs.Orderly.{cells-most}
pub use Rattle.fair_model.proofs.Finish.{finish-is}
pub use Rattle.fair_model.proofs.Outcomes.{strip-means}
pub use Rattle.fair_model.proofs.Steps.{steps-right}
