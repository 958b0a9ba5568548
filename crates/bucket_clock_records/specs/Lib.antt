-- What the host's records say.
pub mod Lent
