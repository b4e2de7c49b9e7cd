pub mod Behind
pub mod Logs
pub mod Parts
pub mod Seen
