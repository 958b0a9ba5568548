-- What the functions ask for.
pub mod Rules
