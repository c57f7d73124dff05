pub mod Coding
pub mod Checks
pub mod Records
pub mod Deeds
pub mod State
pub mod History
pub mod Life
