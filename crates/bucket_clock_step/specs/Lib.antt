-- What the functions ask for.
pub mod Storey
pub mod Buckets
pub mod Stages
