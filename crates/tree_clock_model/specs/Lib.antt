pub mod Cycle
pub mod Records
pub mod Settle
pub mod Calls
pub mod Promise
pub mod Lost
pub mod Cases
pub mod Prelude
