pub mod Ranks
pub mod Agreement
pub mod Ruled
pub mod Refusals
pub mod Clocked
pub mod Packed
