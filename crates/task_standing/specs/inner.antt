-- What refuses an act, by what the task knows alone: no public contract cites it.
pub mod Conditions
