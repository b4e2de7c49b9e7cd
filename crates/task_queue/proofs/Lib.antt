pub mod Fairs
pub mod Emptying
pub mod Ordering
pub mod Taking
