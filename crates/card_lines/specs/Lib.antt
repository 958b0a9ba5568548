pub mod Lines
pub mod Clocked
pub mod Through
