pub mod Works
pub mod Rounds
pub mod Roots
pub mod Cycles
pub mod Drains
