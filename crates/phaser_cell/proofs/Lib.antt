pub mod Made
pub mod Parts
pub mod Written
