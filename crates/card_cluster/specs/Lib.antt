pub mod Cluster
pub mod ClockedCluster
pub mod Cases
