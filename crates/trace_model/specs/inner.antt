-- How a trace keeps its events, and a part its own: no public contract cites it.
pub mod Kept
pub mod Sources
