pub mod Gathering
pub mod Sums
pub mod Told
