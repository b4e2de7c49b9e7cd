pub mod Modes
pub mod Turns
