pub mod Tree
pub mod Mend
pub mod Fair
pub mod Cases
