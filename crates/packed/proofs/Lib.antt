pub mod Shapes
pub mod Seats
pub mod Calls
