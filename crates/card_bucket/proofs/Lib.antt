-- What the proofs of the calls share.
pub mod Calls
pub mod Zeros
pub mod Pinned
pub mod Ports
pub mod Cases
pub mod Handed
