-- What the proofs of the calls share.
pub mod ClockedCluster
pub mod Zeros
pub mod Pinned
pub mod Staged
pub mod Cases
