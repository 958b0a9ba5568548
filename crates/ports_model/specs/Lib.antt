-- The rules of several ports on one pool.
pub mod Layout
pub mod Checks
pub mod Calls
pub mod Causes
pub mod Lists
pub mod Runs
pub mod Promise
pub mod Cases
pub mod Edge
pub mod Spoilt
pub mod Prelude
