-- What only the code's own steps need: no public contract cites it.
pub mod Steps
pub mod Compact
