pub mod Paths
pub mod Data
pub mod Algorithm
pub mod Encryption
