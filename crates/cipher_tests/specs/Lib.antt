pub mod Bare
pub mod Lawful
