-- The definitions that the contracts cite.
pub mod EventsEnds
pub mod EventsFiles
pub mod EventsForm
pub mod EventsLines
pub mod EventsReading
pub mod Out
pub mod Replayed
pub mod Scheduled
pub mod Texts
