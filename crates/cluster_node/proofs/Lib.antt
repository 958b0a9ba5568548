pub mod Unique
pub mod ScanCode
pub mod Looks
pub mod Children
pub mod Bridge
pub mod Fulls
pub mod Fours
