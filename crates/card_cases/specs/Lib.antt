pub mod Table
pub mod Through
