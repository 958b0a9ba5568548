pub mod Cycles
pub mod Drained
