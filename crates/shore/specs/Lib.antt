pub mod Drafting
pub mod Making
