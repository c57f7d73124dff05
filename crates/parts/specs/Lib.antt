pub mod Parts
pub mod Places
pub mod Laws
pub mod Joining
pub mod Interleaving
pub mod Arranged
pub mod Sounds
