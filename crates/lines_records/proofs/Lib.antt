pub mod Records
pub mod Fits
pub mod Told
pub mod History
pub mod Exactly
