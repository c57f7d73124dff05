pub mod Writing
pub mod Making
pub mod Listing
pub mod Chaining
