pub mod Lent
pub mod History
pub mod Refusals
