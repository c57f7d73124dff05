pub mod Word
pub mod Keyed
