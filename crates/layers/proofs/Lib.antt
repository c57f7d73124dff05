pub mod Walks
pub mod Systems
pub mod Bijection
pub mod States
