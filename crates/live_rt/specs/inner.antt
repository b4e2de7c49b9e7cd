-- What tasks in flight know and say of themselves: no contract that a user reads cites it.
pub mod Places
pub mod Says
