pub mod Installing
