mod First
mod Hex
mod Lasting
mod Law
mod Spelling
pub mod Texts
