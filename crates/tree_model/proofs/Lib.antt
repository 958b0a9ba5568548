mod Nothing
mod Choice
mod Rules
mod Many
mod Acts
mod Hang
mod Path
mod Words
mod Serve
pub mod Exactly
pub mod Promises
mod Place
mod Root
mod Slice
mod Agreement
mod Unread
mod Tags
mod Cases
mod Edge
mod Lengths
pub mod Laws
