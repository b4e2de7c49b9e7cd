pub mod Fronts
pub mod Forms
pub mod Lines
pub mod Logs
pub mod Endings
pub mod Words
pub mod Standing
pub mod inner
