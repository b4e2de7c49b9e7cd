-- What only the code's own fields need: no public contract cites it.
pub mod State
