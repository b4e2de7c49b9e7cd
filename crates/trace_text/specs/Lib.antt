pub mod Form
pub mod Json
pub mod Laws
pub mod Noted
pub mod Text
pub mod inner
