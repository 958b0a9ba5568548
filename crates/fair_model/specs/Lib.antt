pub mod Answers
pub mod Ranks
pub mod Steps
pub mod Calls
pub mod Ledger
pub mod Promise
pub mod Cases
