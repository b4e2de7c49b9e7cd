pub mod Closes
pub mod Counts
pub mod Gone
pub mod Kept
pub mod Looks
pub mod Places
pub mod Projects
