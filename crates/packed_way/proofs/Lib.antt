pub mod Leaf
pub mod Slots
pub mod Putted
pub mod Sinks
pub mod Walked
