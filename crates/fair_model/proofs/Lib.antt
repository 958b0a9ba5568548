mod Table
mod Steps
mod Chain
mod Finish
mod Orderly
mod Bound
mod Outcomes
pub mod Exactly
mod Agrees
mod Promises
mod Below
pub mod Cases
mod Slice
mod Leaves
pub mod Laws
