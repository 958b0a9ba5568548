mod Clock
mod Undamaged
mod Turn
mod Step
mod Demand
pub mod Exactly
pub mod Drain
mod Ends
mod Promises
pub mod Cases
mod OneStep
mod Unread
mod Replace
mod Tags
mod Lengths
mod Balance
pub mod Lost
pub mod Laws
