-- What stands in this folder.
pub mod Account
pub mod Accounts
pub mod Fair
pub mod Reaches
pub mod Seats
pub mod inner
