-- What the proofs of the calls share.
pub mod Clocked
pub mod Zeros
pub mod Pinned
pub mod History
pub mod Cases
