pub mod Check
pub mod Mend
pub mod Promise
pub mod Cases
