pub mod Bucket
pub mod Ports
pub mod Cases
