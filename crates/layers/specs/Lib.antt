pub mod Widths
pub mod ChiChi
pub mod Inverse
