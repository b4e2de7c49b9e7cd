-- The definitions that contracts cite, in the order in which they are read.
--
-- What a world is, and what it replies: all of these decide which histories are legal.
pub mod Parts
pub mod Tasks
pub mod Numbers
pub mod Scopes
pub mod Actors
pub mod Due
pub mod PartReplies
pub mod ActConditions
pub mod Acts
pub mod Continuing
pub mod GivingUp
pub mod Replies
-- What is read off a history.
pub mod Clock
pub mod TaskConditions
pub mod Able
pub mod Report
pub mod ReportLines
pub mod Drawing
-- What holds of each legal world.
pub mod Laws
pub mod ScopeLaws
pub mod ClockLaws
pub mod ProgressLaws
-- Worked examples, by computation.
pub mod ExampleWords
pub mod FinishExamples
pub mod TurnExamples
pub mod LimitExamples
pub mod MomentExamples
-- The definitions that the contracts cite.
pub mod SumLines
pub mod inner
