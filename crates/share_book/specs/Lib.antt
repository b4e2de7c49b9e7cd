pub mod Accounts
pub mod Opening
