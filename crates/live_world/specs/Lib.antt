pub mod Live
pub mod StandsFor
pub mod Counts
pub mod Waits
pub mod Laws
pub mod inner
