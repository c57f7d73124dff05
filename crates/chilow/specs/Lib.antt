pub mod Words
pub mod Sealing
