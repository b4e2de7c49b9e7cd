-- What only the code's own values need: no public contract cites it.
pub mod Board
pub mod Foldings
pub mod Folds
pub mod Keeping
pub mod Plays
pub mod Steps
pub mod Stories
pub mod Tellings
