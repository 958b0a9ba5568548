pub mod Down
pub mod Once
