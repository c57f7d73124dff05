pub mod Standing
pub mod View
