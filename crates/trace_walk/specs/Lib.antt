pub mod History
pub mod Given
pub mod Walking
pub mod ExampleWords
pub mod Follows
pub mod Laws
pub mod Picks
pub mod RefusalExamples
pub mod RunExamples
pub mod Scripts
-- The definitions that contracts cite, in the order in which they are read.
pub mod Going
pub mod Whole
pub mod inner
