pub mod Finding
pub mod PutIn
pub mod Trying
