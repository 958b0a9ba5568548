pub mod Boundary
pub mod Through
pub mod Histories
pub mod HistoriesPorts
pub mod HistoriesFair
pub mod HistoriesClock
