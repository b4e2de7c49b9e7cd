-- What only the code's own values need: no public contract cites it.
pub mod Next
