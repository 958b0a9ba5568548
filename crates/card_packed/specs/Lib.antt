pub mod Cases
pub mod Packed
pub mod Through
