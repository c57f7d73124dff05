pub mod Packs
pub mod Pairs
pub mod Bytes
