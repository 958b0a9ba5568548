-- The bucket queue's rules.
pub mod Layout
pub mod Storeys
pub mod Checks
pub mod Calls
pub mod Causes
pub mod Plain
pub mod Promise
pub mod Filled
pub mod Spoilt
pub mod Prelude
