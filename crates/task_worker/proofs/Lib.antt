pub mod Driven
pub mod Posted
pub mod Replied
