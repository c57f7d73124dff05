pub mod Linears
