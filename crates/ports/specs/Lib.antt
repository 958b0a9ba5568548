-- What clear's functions ask for and promise.
pub mod Blank
