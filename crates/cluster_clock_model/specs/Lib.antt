pub mod Stage
pub mod Test
pub mod Calls
pub mod Promise
pub mod Cases
pub mod Prelude
