pub mod FirstDue
pub mod GoingOn
pub mod Heard
pub mod OnTheWay
pub mod Saying
