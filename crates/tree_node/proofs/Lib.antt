pub mod Under
pub mod Steps
pub mod Rulings
pub mod Shapes
pub mod Scans
pub mod Looks
pub mod Leads
pub mod Winners
