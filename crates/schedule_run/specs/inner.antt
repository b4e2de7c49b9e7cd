pub mod Bodies
pub mod Ended
pub mod Records
pub mod Running
pub mod Notes
pub mod Tracing
