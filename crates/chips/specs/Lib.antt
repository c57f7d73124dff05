pub mod Chips
pub mod Elements
pub mod Sounds
