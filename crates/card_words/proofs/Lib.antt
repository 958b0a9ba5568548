pub mod Out
pub mod Store
pub mod Pinned
pub mod Asked
pub mod Heard
pub mod Numbers
pub mod Sized
pub mod Cluster
