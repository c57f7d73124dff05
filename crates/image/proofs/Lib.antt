pub mod Packing
pub mod Laying
