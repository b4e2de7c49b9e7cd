pub mod Following
pub mod inner
