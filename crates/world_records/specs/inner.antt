-- What the private functions of `world_core` say, by the state alone: no public contract cites it.
pub mod Sizes
pub mod Facts
pub mod Steps
pub mod SpawnSteps
pub mod Queries
pub mod FinishSteps
pub mod Begins
pub mod Registering
pub mod RegisterSteps
pub mod DropSteps
pub mod Drawings
pub mod Refusals
pub mod Failures
pub mod Sends
pub mod Reports
