pub mod Layout
pub mod Causes
pub mod Rules
pub mod Promise
pub mod Calls
pub mod Clock
pub mod Plain
