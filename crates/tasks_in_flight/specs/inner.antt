-- What tasks in flight say of themselves: no contract that a user reads cites it.
pub mod Due
pub mod GoingOn
pub mod Ready
