-- The definitions that the contracts cite.
pub mod Finish
pub mod Laws
pub mod Replies
pub mod Shutting
pub mod inner
