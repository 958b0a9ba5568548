pub mod Out
pub mod Store
pub mod Asked
pub mod Heard
pub mod Sizes
pub mod Cases
