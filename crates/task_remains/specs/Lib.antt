pub mod Remaining
pub mod inner
