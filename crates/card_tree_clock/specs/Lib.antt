pub mod Clocked
pub mod History
pub mod Cases
