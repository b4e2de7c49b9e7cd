-- What the code's own functions say: no public contract cites it.
pub mod Back
