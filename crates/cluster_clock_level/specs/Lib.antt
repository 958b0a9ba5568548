pub mod Round
pub mod Stage
pub mod Turn
