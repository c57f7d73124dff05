pub mod Digits
pub mod Forms
pub mod Lines
pub mod Laws
pub mod Replies
pub mod Sessions
