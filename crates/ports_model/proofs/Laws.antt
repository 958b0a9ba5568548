-- The laws of `ports_model` that other crates use, passed on.
pub use Rattle.ports_model.proofs.Facts.{kept-means, limits-mean, room-means, shape-means, whole-means}
pub use Rattle.ports_model.proofs.Frame.{free-some, room-used}
pub use Rattle.ports_model.proofs.Kind.{kind}
pub use Rattle.ports_model.proofs.Places.{foreign-ceiling, foreign-floor, foreign-held, laid, shaped-at}
pub use Rattle.ports_model.proofs.Promises.{ports-answer}
pub use Rattle.ports_model.proofs.Sums.{to_le, to_part, to-upd}
