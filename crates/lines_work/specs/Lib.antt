pub mod Shift
pub mod Work
pub mod Sizes
