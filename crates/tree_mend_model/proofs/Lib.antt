mod Walk
mod Descent
mod Sound
mod Passes
mod Idled
mod Exactly
mod Mends
mod Unread
mod Places
mod Cases
mod Order
pub mod Laws
