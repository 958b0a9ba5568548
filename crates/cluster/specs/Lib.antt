pub mod Down
pub mod Coded
