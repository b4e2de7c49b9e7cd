pub mod About
pub mod AtTheEnd
pub mod Begins
pub mod Held
pub mod Seen
pub mod Spots
