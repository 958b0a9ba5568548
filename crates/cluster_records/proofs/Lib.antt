-- What the proofs share.
pub mod Back
pub mod Drained
pub mod Exactly
pub mod Fits
pub mod History
pub mod Plain
pub mod Records
pub mod AfterRead
