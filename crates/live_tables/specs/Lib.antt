-- The definitions that the contracts cite.
pub mod Counted
pub mod Slots
