pub mod Showing
pub mod Laws
