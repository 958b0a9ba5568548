pub mod Lie
pub mod Settle
