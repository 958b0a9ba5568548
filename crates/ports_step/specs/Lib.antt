-- What the functions ask for and what they promise.
pub mod Sums
