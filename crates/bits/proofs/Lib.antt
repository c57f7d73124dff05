pub mod Numbers
pub mod Fields
pub mod Folds
pub mod Setting
pub mod Patching
pub mod Writing
