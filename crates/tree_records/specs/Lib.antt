pub mod Lent
pub mod Steps
pub mod History
pub mod Refusals
