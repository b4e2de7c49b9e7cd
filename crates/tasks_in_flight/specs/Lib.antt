pub mod Heard
pub mod Noted
pub mod Refused
pub mod Said
pub mod inner
