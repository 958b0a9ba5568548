-- What the functions ask for.
pub mod Places
