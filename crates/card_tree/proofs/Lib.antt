-- What the proofs of the calls share.
pub mod Zeros
pub mod Pinned
pub mod Mend
pub mod Fair
pub mod Cases
