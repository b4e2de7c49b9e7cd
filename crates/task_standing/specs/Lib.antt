-- What a task in flight knows of itself, which events it has still to make, what it notes of them, and what a world's
-- history says of it.
pub mod Known
pub mod Standing
pub mod StillToMake
pub mod Noted
pub mod Histories
pub mod inner
-- What each event makes of what a task knows of itself.
pub mod Laws
pub mod Children
pub mod AfterEvents
pub mod Examples
