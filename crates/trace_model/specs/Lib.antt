pub mod Format
pub mod Bytes
pub mod Program
pub mod Play
pub mod Example
pub mod Promise
