pub mod Put
pub mod Sink
