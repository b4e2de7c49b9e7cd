-- What is known of a run's history and of why a job failed, and which texts are printed.
pub mod Answered
mod OfRun
pub mod Reasons
pub mod Texts
pub mod Turned
pub mod Unrefused
pub mod Whole
