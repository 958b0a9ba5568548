-- What the functions ask for.
pub mod Stores
pub mod Tested
