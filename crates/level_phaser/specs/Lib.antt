-- The definitions that the contracts cite.
pub mod Changes
pub mod Deeds
pub mod Keeping
pub mod LevelPhasers
pub mod RoundLaws
pub mod Rounds
pub mod Seen
pub mod Views
pub mod inner
