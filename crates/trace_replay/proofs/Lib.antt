pub mod Marking
pub mod OfParts
pub mod Reported
pub mod Taking
pub mod Turning
pub mod Walking
