pub mod Adding
pub mod Faults
pub mod Legal
pub mod Owners
pub mod Telling
