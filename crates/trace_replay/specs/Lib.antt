pub mod Merging
pub mod Replaying
pub mod inner
