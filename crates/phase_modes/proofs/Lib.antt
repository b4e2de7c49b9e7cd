pub mod FirstRefusal
pub mod Places
pub mod Setting
